-- How runs of the program end.
use Rattle.std.proofs.Common.{◌≡◌, ◌⊎◌, ◌≤◌, ◌∙◌, ℕ, List, Option, Result, Ok, Err, OnOk, IfOk, IsErrOf, IsTrue, true, false, refl, ap, sym, subst, inl, inr}
use Rattle.std.specs.Prelude.{codes}
use Rattle.std.specs.Str.{bytes_eq}
use native.Mathlib.Omega.{arith}
use Rattle.mars_core.specs.declared.side.Side.{Side}
use Rattle.rc_instr.specs.Outlet.{OutletView}
use Rattle.rc_instr.specs.Rules.{RulesView}
use Rattle.tune_problem.specs.declared.part.Part.{Part}
use Rattle.tune_cert.specs.declared.demand.Demand.{Demand}
use Rattle.tune_cert.specs.declared.share.Share.{Share}
use Rattle.tune_runs.specs.DuelRun.{position_meant}
use Rattle.tune_runs.specs.Runs.{Writer, writer}
use Rattle.tune_runs.specs.SettingsRun.{WritesSettings}
use Rattle.tune_template.specs.declared.vector.WhichSetting.{WhichSetting}
use Rattle.tune_problem.specs.declared.aim.Aim.{Aim}
use Rattle.tune_search.specs.declared.method.Method.{Method}
use Rattle.command_words.specs.CommandLine.{AsksForFight, command_of, is_command}
use Rattle.command_words.specs.Help.{MentionsHelp}
use Rattle.command_runs.specs.Commands.{KeepsOutput, IsEnded, IsCheckEnded, WritesFightIn, WritesDuelOf, WritesSomeDuel, WritesLoadFile, WritesSomeLoadFile, WritesSomeSettings, WritesReport, WritesSomeReport, WritesCheckLine, WritesSomeCheckLine, status_of}
use Rattle.command_runs.specs.Program.{IsProgramRun, IsSuccess}
use Rattle.command_runs.specs.declared.ending.Ending.{Ending}
use Rattle.command_runs.specs.declared.ending.Ending.TheVariants.{Refused, Misused, Failed}

-- a status tells how the command ended
pub done_at : {X P : Type 0} (ended : Result X Ending) (status : ℕ) → status ≡ status_of ended → OnOk ended P → status ≡ 0 → P
done_at (Ok x) status is p e = p
done_at (Err Refused) status is p e = absurd (omega (arith, is, e))
done_at (Err Misused) status is p e = absurd (omega (arith, is, e))
done_at (Err Failed) status is p e = absurd (omega (arith, is, e))

pub refused_at : {X : Type 0} (ended : Result X Ending) (status : ℕ) → status ≡ status_of ended → status ≡ 1 → IsErrOf ended Refused
refused_at (Ok x) status is e = absurd (omega (arith, is, e))
refused_at (Err Refused) status is e = refl
refused_at (Err Misused) status is e = absurd (omega (arith, is, e))
refused_at (Err Failed) status is e = absurd (omega (arith, is, e))

pub misused_at : {X : Type 0} (ended : Result X Ending) (status : ℕ) → status ≡ status_of ended → status ≡ 2 → IsErrOf ended Misused
misused_at (Ok x) status is e = absurd (omega (arith, is, e))
misused_at (Err Refused) status is e = absurd (omega (arith, is, e))
misused_at (Err Misused) status is e = refl
misused_at (Err Failed) status is e = absurd (omega (arith, is, e))

pub failed_at : {X : Type 0} (ended : Result X Ending) (status : ℕ) → status ≡ status_of ended → status ≡ 3 → IsErrOf ended Failed
failed_at (Ok x) status is e = absurd (omega (arith, is, e))
failed_at (Err Refused) status is e = absurd (omega (arith, is, e))
failed_at (Err Misused) status is e = absurd (omega (arith, is, e))
failed_at (Err Failed) status is e = refl

pub at_most : {X : Type 0} (ended : Result X Ending) (status : ℕ) → status ≡ status_of ended → status ≤ 3
at_most (Ok x) status is = omega (arith, is)
at_most (Err Refused) status is = omega (arith, is)
at_most (Err Misused) status is = omega (arith, is)
at_most (Err Failed) status is = omega (arith, is)

-- what a result promises of its value holds of the value
pub named_at : {A X : Type 0} (P : A → Type 0) (r : Result A X) (x : A) → r ≡ Ok x → IfOk r P → P x
named_at P r x is h = subst (λ q. IfOk q P) is h

-- words that ask for no fight: the clauses about fights hold, since their premise does not
other_run : {X : Type 0} (words : List (List ℕ)) (input : Option (List ℕ)) (old new : OutletView) (ended : Result X Ending) (status : ℕ)
    → status ≡ status_of ended → (AsksForFight words → ⊥) → KeepsOutput old new ended
    → (IsErrOf ended Refused → (new ≡ old) ⊎ WritesSomeCheckLine false (writer old new))
    → (status ≡ 0 → MentionsHelp words ⊎ IsSuccess words input (writer old new)) → IsProgramRun words input old new status
other_run words input old new ended status is other kept unwritten success = record {
  done = λ asked e. absurd (other asked);
  refused = λ asked e. absurd (other asked);
  understood = λ asked e. other asked;
  success = success;
  misused = λ e. kept.misused (misused_at ended status is e);
  unwritten = λ e. unwritten (refused_at ended status is e);
  failed = λ f. is ∙ ap status_of (kept.failed f);
  lost = λ e. kept.lost (failed_at ended status is e);
  status = at_most ended status is;
}

-- a run that writes nothing unless it succeeds
quiet_run : {X Wrote : Type 0} (words : List (List ℕ)) (input : Option (List ℕ)) (old new : OutletView) (ended : Result X Ending) (status : ℕ)
    → status ≡ status_of ended → (AsksForFight words → ⊥) → IsEnded Wrote old new ended
    → (status ≡ 0 → MentionsHelp words ⊎ IsSuccess words input (writer old new)) → IsProgramRun words input old new status
quiet_run words input old new ended status is other ended_so success =
    other_run words input old new ended status is other ended_so.kept (λ e. inl (ended_so.refused e)) success

same_word : (word named other : List ℕ) → named ≡ word → IsTrue (bytes_eq other other) → named ≡ other → IsTrue (bytes_eq word other)
same_word word named other is same e = subst (λ w. IsTrue (bytes_eq w other)) (sym e ∙ is) same

-- a command succeeds if it wrote what its own field says
pub success_of : (word : List ℕ) (words : List (List ℕ)) (input : Option (List ℕ)) (out : Writer) → command_of words ≡ word → IsTrue (is_command word)
    → (IsTrue (bytes_eq word (codes "fight")) → WritesFightIn input out ⊎ WritesSomeDuel out)
    → (IsTrue (bytes_eq word (codes "asm")) → WritesSomeLoadFile out)
    → (IsTrue (bytes_eq word (codes "settings")) → WritesSomeSettings out)
    → (IsTrue (bytes_eq word (codes "tune")) → WritesSomeReport out)
    → (IsTrue (bytes_eq word (codes "check")) → WritesSomeCheckLine true out) → IsSuccess words input out
success_of word words input out named known fight asm settings tune check = record {
  known = subst (λ w. IsTrue (is_command w)) (sym named) known;
  fight = λ e. fight (same_word word (command_of words) (codes "fight") named refl e);
  asm = λ e. asm (same_word word (command_of words) (codes "asm") named refl e);
  settings = λ e. settings (same_word word (command_of words) (codes "settings") named refl e);
  tune = λ e. tune (same_word word (command_of words) (codes "tune") named refl e);
  check = λ e. check (same_word word (command_of words) (codes "check") named refl e);
}

no : {P : Type 0} → IsTrue false → P
no e = absurd (cc)

pub fight_success : (words : List (List ℕ)) (input : Option (List ℕ)) (out : Writer) → command_of words ≡ codes "fight"
    → WritesFightIn input out ⊎ WritesSomeDuel out → IsSuccess words input out
fight_success words input out named wrote = success_of (codes "fight") words input out named refl (λ _. wrote) no no no no

pub duel_run : {X : Type 0} (words : List (List ℕ)) (input : Option (List ℕ)) (old new : OutletView) (rules : RulesView) (position : Option ℕ) (first : Side)
    (ended : Result X Ending) (status : ℕ) → status ≡ status_of ended → (AsksForFight words → ⊥) → IsEnded (WritesDuelOf rules position first (writer old new)) old new ended
    → command_of words ≡ codes "fight" → IsProgramRun words input old new status
duel_run words input old new rules position first ended status is other ended_so named =
    quiet_run words input old new ended status is other ended_so (λ e. let (c, o, line) = done_at ended status is ended_so.done e in
    inr (fight_success words input (writer old new) named (inr (c, o, rules, position_meant rules position, first, line))))

pub asm_run : {X : Type 0} (words : List (List ℕ)) (input : Option (List ℕ)) (old new : OutletView) (setting : Option WhichSetting) (rules : RulesView)
    (ended : Result X Ending) (status : ℕ) → status ≡ status_of ended → (AsksForFight words → ⊥)
    → IsEnded ((source : List ℕ) × WritesLoadFile source setting rules (writer old new)) old new ended → command_of words ≡ codes "asm" → IsProgramRun words input old new status
asm_run words input old new setting rules ended status is other ended_so named =
    quiet_run words input old new ended status is other ended_so (λ e. let (source, text) = done_at ended status is ended_so.done e in
    inr (success_of (codes "asm") words input (writer old new) named refl no (λ _. (source, setting, rules, text)) no no no))

pub settings_run : {X : Type 0} (words : List (List ℕ)) (input : Option (List ℕ)) (old new : OutletView) (ended : Result X Ending) (status : ℕ)
    → status ≡ status_of ended → (AsksForFight words → ⊥) → IsEnded ((source : List ℕ) × WritesSettings source (writer old new)) old new ended
    → command_of words ≡ codes "settings" → IsProgramRun words input old new status
settings_run words input old new ended status is other ended_so named =
    quiet_run words input old new ended status is other ended_so (λ e. let text = done_at ended status is ended_so.done e in
    inr (success_of (codes "settings") words input (writer old new) named refl no no (λ _. text) no no))

pub tune_run : {X : Type 0} (words : List (List ℕ)) (input : Option (List ℕ)) (old new : OutletView) (aim : Aim) (method : Method) (rules : RulesView) (part : Part)
    (ended : Result X Ending) (status : ℕ) → status ≡ status_of ended → (AsksForFight words → ⊥) → IsEnded (WritesReport aim method rules part (writer old new)) old new ended
    → command_of words ≡ codes "tune" → IsProgramRun words input old new status
tune_run words input old new aim method rules part ended status is other ended_so named =
    quiet_run words input old new ended status is other ended_so (λ e. let text = done_at ended status is ended_so.done e in
    inr (success_of (codes "tune") words input (writer old new) named refl no no no (λ _. (aim, method, rules, part, text)) no))

pub check_run : {X : Type 0} (words : List (List ℕ)) (input : Option (List ℕ)) (old new : OutletView) (rules : RulesView) (part : Part)
    (demand : Demand) (share : Option Share) (ended : Result X Ending) (status : ℕ) → status ≡ status_of ended → (AsksForFight words → ⊥)
    → IsCheckEnded (WritesCheckLine rules part demand share) old new ended → command_of words ≡ codes "check" → IsProgramRun words input old new status
check_run words input old new rules part demand share ended status is other ended_so named =
    other_run words input old new ended status is other ended_so.kept
    (λ e. elim (ended_so.refused e) [ inl same ↦ inl same | inr line ↦ inr (rules, part, demand, share, line) ])
    (λ e. let line = done_at ended status is ended_so.done e in
    inr (success_of (codes "check") words input (writer old new) named refl no no no no (λ _. (rules, part, demand, share, line))))

pub help_run : {X : Type 0} (words : List (List ℕ)) (input : Option (List ℕ)) (old new : OutletView) (ended : Result X Ending) (status : ℕ)
    → status ≡ status_of ended → (AsksForFight words → ⊥) → IsEnded (MentionsHelp words) old new ended → IsProgramRun words input old new status
help_run words input old new ended status is other ended_so =
    quiet_run words input old new ended status is other ended_so (λ e. inl (done_at ended status is ended_so.done e))
