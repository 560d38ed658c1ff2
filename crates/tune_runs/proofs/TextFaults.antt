-- The faults that the texts of a tuning may have.
use Rattle.std.proofs.Common.{◌≡◌, ◌⊎◌, ◌+◌, ℕ, Bool, true, false, List, [], ◌∷◌, length, inl, inr, refl, subst, Result, Ok, Err}
use Rattle.std.specs.Prelude.{Option, nat_le}
use Rattle.rc_instr.specs.Results.{with_fault, check}
use Rattle.rc_instr.specs.Rules.{RulesView}
use Rattle.rc_asm.specs.Assembly.{outcome_of}
use Rattle.rc_asm.specs.declared.fault.AsmKind.{AsmKind}
use Rattle.rc_asm.specs.declared.fault.AsmKind.TheVariants as asm
use Rattle.rc_instr.proofs.Chains.{ok_of}
use Rattle.mars_fight.specs.Schedule.{schedule_of}
use Rattle.mars_fight.specs.declared.fault.ScheduleFaultKind.{ScheduleFaultKind}
use Rattle.mars_fight.specs.declared.fault.ScheduleFaultKind.TheVariants as schedule
use Rattle.tune_template.specs.declared.fault.TemplateKind.{TemplateKind}
use Rattle.tune_template.specs.declared.fault.TemplateKind.TheVariants as template
use Rattle.tune_template.specs.Instances.{TemplateView, setting_count, template_of}
use Rattle.tune_problem.specs.Limits.{MOST_OPPONENTS}
use Rattle.tune_problem.specs.declared.part.Part.{Part}
use Rattle.tune_cert.specs.declared.demand.Demand.{Demand}
use Rattle.tune_cert.proofs.Statements.{stopped}
use Rattle.tune_runs.specs.Runs.{opponent_fault, template_fault, schedule_fault}
use Rattle.tune_runs.specs.TuneRun.{Texts, opponents_from, is_part, is_text_fault, meaning_of}
use Rattle.tune_runs.specs.CheckRun.{check_output}
use Rattle.tune_runs.specs.declared.fault.RunFault.{RunFault}
use Rattle.tune_runs.specs.declared.fault.RunFault.TheVariants.{TooManyOpponents, Part as BadPart}

of_template : (line : ℕ) (kind : TemplateKind) → is_text_fault (template_fault (record { line = line; kind = kind })) ≡ true
of_template line template.BadLine = refl
of_template line template.DuplicateName = refl
of_template line template.ReservedName = refl
of_template line template.EmptyRange = refl
of_template line template.StartOutside = refl
of_template line template.TooManyConstants = refl
of_template line template.TooManyVectors = refl
of_template line template.TextTooLong = refl
of_template line template.OutOfMemory = refl

of_schedule : (row : ℕ) (kind : ScheduleFaultKind) → is_text_fault (schedule_fault (record { row = row; kind = kind })) ≡ true
of_schedule row schedule.Header = refl
of_schedule row schedule.FieldCount = refl
of_schedule row schedule.BadNumber = refl
of_schedule row schedule.NoSuchOpponent = refl
of_schedule row schedule.BadPosition = refl
of_schedule row schedule.BadFirst = refl
of_schedule row schedule.Empty = refl
of_schedule row schedule.TooMany = refl
of_schedule row schedule.OutOfMemory = refl
of_schedule row schedule.BadWeight = refl

of_opponent : (index line : ℕ) (kind : AsmKind) → is_text_fault (opponent_fault index (record { line = line; kind = kind })) ≡ true
of_opponent index line (asm.Expand k) = refl
of_opponent index line asm.UnknownOpcode = refl
of_opponent index line asm.MissingOperand = refl
of_opponent index line asm.ExtraText = refl
of_opponent index line (asm.Value f) = refl
of_opponent index line asm.AssertFailed = refl
of_opponent index line (asm.Warrior w) = refl
of_opponent index line asm.TextTooLong = refl
of_opponent index line asm.OutOfMemory = refl

wraps : {A E : Type 0} (wrap : E → RunFault) (r : Result A E) (e : RunFault) → ((f : E) → is_text_fault (wrap f) ≡ true) → with_fault wrap r ≡ Err e → is_text_fault e ≡ true
wraps wrap (Ok x) e each h = absurd (cc)
wraps wrap (Err f) e each h = let same : wrap f ≡ e = cc in subst (λ q. is_text_fault q ≡ true) same (each f)

of_opponents : (rules : RulesView) (index : ℕ) (texts : List (List ℕ)) (e : RunFault) → opponents_from rules index texts ≡ Err e → is_text_fault e ≡ true
of_opponents rules index [] e h = absurd (cc)
of_opponents rules index (text ∷ texts) e h = elim (stopped (with_fault (opponent_fault index) (outcome_of text [] rules)) _ e h) [
  | inl one ↦ wraps (opponent_fault index) (outcome_of text [] rules) e (λ f. of_opponent index f.line f.kind) one
  | inr more ↦ elim (stopped (opponents_from rules (index + 1) texts) _ e more.2) [
    | inl others ↦ of_opponents rules (index + 1) texts e others
    | inr none ↦ absurd (let q = none.2 in cc)
  ]
]

too_many : (b : Bool) (e : RunFault) → check b TooManyOpponents ≡ Err e → is_text_fault e ≡ true
too_many true e h = absurd (cc)
too_many false e h = let same : TooManyOpponents ≡ e = cc in subst (λ q. is_text_fault q ≡ true) same refl

-- there is no such part of the template's settings
pub record HasNoPart (t : Texts) (e : RunFault) : Type 0 where
  pub is : e ≡ BadPart
  pub template : TemplateView
  pub means : template_of t.template ≡ Ok template
  pub missing : is_part t.part (setting_count template) ≡ false

no_part : (b : Bool) (e : RunFault) → check b BadPart ≡ Err e → (b ≡ false) × (e ≡ BadPart)
no_part true e h = absurd (cc)
no_part false e h = (refl, cc)

pub text_fault : (t : Texts) (e : RunFault) → meaning_of t ≡ Err e → (is_text_fault e ≡ true) ⊎ HasNoPart t e
unfolding meaning_of
text_fault t e h = elim (stopped (check (nat_le (length t.opponents) MOST_OPPONENTS) TooManyOpponents) _ e h) [
  | inl a ↦ inl (too_many _ e a)
  | inr n ↦ elim (stopped (with_fault template_fault (template_of t.template)) _ e n.2) [
    | inl a ↦ inl (wraps template_fault (template_of t.template) e (λ f. of_template f.line f.kind) a)
    | inr x ↦ elim (stopped (opponents_from t.rules 0 t.opponents) _ e x.2) [
      | inl a ↦ inl (of_opponents t.rules 0 t.opponents e a)
      | inr o ↦ elim (stopped (with_fault schedule_fault (schedule_of t.rules (length t.opponents) t.schedule)) _ e o.2) [
        | inl a ↦ inl (wraps schedule_fault (schedule_of t.rules (length t.opponents) t.schedule) e (λ f. of_schedule f.row f.kind) a)
        | inr s ↦ elim (stopped (check (is_part t.part (setting_count x.0)) BadPart) _ e s.2) [
          | inl a ↦
              let p = no_part _ e a in
              inr (record { is = p.1; template = x.0; means = ok_of template_fault (template_of t.template) x.0 x.1; missing = p.0 })
          | inr none ↦ absurd (let q = none.2 in cc)
        ]
      ]
    ]
  ]
]

-- a check has no fault but that of its texts
pub of_texts : (t : Texts) (demand : Demand) (share : Option Part) (cert : List ℕ) (e : RunFault) → check_output t demand share cert ≡ Err e → meaning_of t ≡ Err e
unfolding check_output
of_texts t demand share cert e h = elim (stopped (meaning_of t) _ e h) [ inl meant ↦ meant | inr none ↦ absurd (let q = none.2 in cc) ]
