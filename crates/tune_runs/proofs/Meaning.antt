-- What the meaning of the texts of a tuning is made of.
use Rattle.std.proofs.Common.{◌≡◌, ℕ, Bool, true, false, length, Ok, refl, sym, ◌∙◌, ap, subst}
use Rattle.std.specs.Prelude.{◌&&◌, nat_le}
use Rattle.std.proofs.lemmas.Bool.{and_parts}
use borrow.Author.Tests.{le-leb}
use Rattle.rc_instr.specs.Results.{with_fault, check}
use Rattle.rc_instr.proofs.CheckSteps.{at_most}
use Rattle.rc_instr.proofs.Chains.{went_on, ok_of}
use Rattle.mars_fight.specs.Schedule.{schedule_of}
use Rattle.tune_template.specs.Instances.{setting_count, template_of}
use Rattle.tune_problem.specs.Limits.{MOST_OPPONENTS}
use Rattle.tune_problem.specs.Inputs.{InputsView}
use Rattle.tune_problem.specs.Parts.{IsPart}
use Rattle.tune_problem.specs.declared.part.Part.{Part}
use Rattle.tune_runs.specs.Runs.{template_fault, schedule_fault}
use Rattle.tune_runs.specs.TuneRun.{Texts, opponents_from, is_part, meaning_of, Means}
use Rattle.tune_runs.specs.declared.fault.RunFault.TheVariants.{TooManyOpponents, Part as BadPart}

pub one_meaning : (t : Texts) (i j : InputsView) → Means t i → Means t j → i ≡ j
one_meaning t i j m n = let same = sym m ∙ n in cc

-- a test that was passed
passed : {E : Type 0} (b : Bool) (e : E) → check b e ≡ Ok tt → b ≡ true
passed true e h = refl
passed false e h = absurd (cc)

-- a part is one of those that the test lets through
pub part_passes : (p : Part) (count : ℕ) → IsPart p count → is_part p count ≡ true
part_passes p count h = rw (le-leb 1 p.number h.some, le-leb p.number p.parts h.within, le-leb p.parts count h.few) refl

pub is_a_part : (p : Part) (count : ℕ) → is_part p count ≡ true → IsPart p count
is_a_part p count e =
    let one = and_parts (nat_le 1 p.number) (nat_le p.number p.parts && nat_le p.parts count) e in
    let two = and_parts (nat_le p.number p.parts) (nat_le p.parts count) one.1 in
    record { some = at_most _ _ one.0; within = at_most _ _ two.0; few = at_most _ _ two.1 }

-- each step of the meaning of texts
pub record IsMadeOf (t : Texts) (i : InputsView) : Type 0 where
  pub few : nat_le (length t.opponents) MOST_OPPONENTS ≡ true
  pub template : template_of t.template ≡ Ok i.template
  pub opponents : opponents_from t.rules 0 t.opponents ≡ Ok i.opponents
  pub schedule : schedule_of t.rules (length t.opponents) t.schedule ≡ Ok i.schedule
  pub parted : IsPart t.part (setting_count i.template)
  pub rules : i.rules ≡ t.rules
  pub part : i.part ≡ t.part

pub made_of : (t : Texts) (i : InputsView) → Means t i → IsMadeOf t i
unfolding meaning_of
made_of t i m =
    let n = went_on (check (nat_le (length t.opponents) MOST_OPPONENTS) TooManyOpponents) _ i m in
    let x = went_on (with_fault template_fault (template_of t.template)) _ i n.2 in
    let o = went_on (opponents_from t.rules 0 t.opponents) _ i x.2 in
    let s = went_on (with_fault schedule_fault (schedule_of t.rules (length t.opponents) t.schedule)) _ i o.2 in
    let p = went_on (check (is_part t.part (setting_count x.0)) BadPart) _ i s.2 in
    let same : record { template = x.0; opponents = o.0; schedule = s.0; rules = t.rules; part = t.part } ≡ i = let q = p.2 in cc in
    subst (IsMadeOf t) same (record {
      few = passed _ TooManyOpponents n.1;
      template = ok_of template_fault (template_of t.template) x.0 x.1;
      opponents = o.1;
      schedule = ok_of schedule_fault (schedule_of t.rules (length t.opponents) t.schedule) s.0 s.1;
      parted = is_a_part t.part (setting_count x.0) (passed _ BadPart p.1);
      rules = refl;
      part = refl;
    })

pub means : (t : Texts) (i : InputsView) → IsMadeOf t i → Means t i
unfolding meaning_of
means t i m =
    let p = part_passes t.part (setting_count i.template) m.parted in
    rw (m.few, m.template, m.opponents, m.schedule, p)
    (ap (λ x. Ok (record { template = i.template; opponents = i.opponents; schedule = i.schedule; rules = x; part = t.part })) (sym m.rules)
    ∙ ap (λ x. Ok (record { template = i.template; opponents = i.opponents; schedule = i.schedule; rules = i.rules; part = x })) (sym m.part))
