-- Every template has a part 1 of 1.
use Rattle.std.proofs.Common.{◌≡◌, ◌≢◌, ◌⊎◌, ◌<◌, ℕ, true, false, List, None, inl, inr, refl, sym, Result, Ok, Err, IfErr, ◌∙◌, ap, subst, arith}
use Rattle.rc_instr.specs.Results.{and_then}
use Rattle.rc_instr.specs.Outlet.{OutletView}
use Rattle.tune_template.specs.declared.fault.TemplateFault.{TemplateFault}
use Rattle.tune_template.specs.Ranges.{Ranges, ranges_of}
use Rattle.tune_template.specs.Instances.{TemplateView, setting_count, template_of}
use Rattle.tune_template.proofs.RangeLaws.{some_setting}
use Rattle.tune_problem.specs.Parts.{whole, IsPart}
use Rattle.tune_problem.specs.declared.part.Part.{Part}
use Rattle.tune_cert.specs.declared.demand.Demand.{Demand}
use Rattle.tune_runs.specs.Runs.{IsOutOfMemory}
use Rattle.tune_runs.specs.TuneRun.{Texts, is_part, meaning_of, HasNoCandidate}
use Rattle.tune_runs.specs.CheckRun.{check_output}
use Rattle.tune_runs.specs.declared.fault.RunFault.{RunFault}
use Rattle.tune_runs.specs.declared.fault.RunFault.TheVariants.{NoCandidate, Write, OutOfMemory, Part as BadPart}
use Rattle.tune_runs.proofs.Meaning.{part_passes}
use Rattle.tune_runs.proofs.TextFaults.{text_fault, of_texts}

-- part 1 of 1 is a part of any settings
whole_passes : (p : Part) (count : ℕ) → p ≡ whole → 0 < count → is_part p count ≡ true
whole_passes p count is some = part_passes p count (subst (λ (q : Part). IsPart q count) (sym is) (record { some = omega arith; within = omega arith; few = omega (arith, some) }))

some_settings : (text : List ℕ) (t : TemplateView) → template_of text ≡ Ok t → 0 < setting_count t
some_settings text t e = by_ranges (ranges_of text) refl e where
  by_ranges : (r : Result Ranges TemplateFault) → ranges_of text ≡ r → and_then (λ x. Ok (record { text = text; ranges = x })) r ≡ Ok t → 0 < setting_count t
  by_ranges (Err f) is h = absurd (cc)
  by_ranges (Ok r) is h =
      let same : record { text = text; ranges = r } ≡ t = cc in
      subst (λ (x : TemplateView). 0 < setting_count x) same (some_setting text r is)

-- the whole is never missing
whole_parted : (t : Texts) → t.part ≡ whole → meaning_of t ≡ Err BadPart → ⊥
whole_parted t is h = elim (text_fault t BadPart h) [
  | inl other ↦ cc
  | inr none ↦
      let passes = whole_passes t.part (setting_count none.template) is (some_settings t.template none.template none.means) in
      let both : true ≡ false = sym passes ∙ none.missing in
      cc
]

not_part : (e : RunFault) (t : Texts) → t.part ≡ whole → (e ≢ Write → (¬ IsOutOfMemory e) → (meaning_of t ≡ Err e) ⊎ ((e ≡ NoCandidate) × HasNoCandidate t)) → e ≢ BadPart
not_part e t is says = λ same.
    let other : e ≢ Write = (λ w. let q : BadPart ≡ Write = sym same ∙ w in cc) in
    let known : e ≢ OutOfMemory = (λ w. let q : BadPart ≡ OutOfMemory = sym same ∙ w in cc) in
    elim (says other known) [
      | inl a ↦ whole_parted t is (a ∙ ap (λ f. Err f) same)
      | inr b ↦ let q : BadPart ≡ NoCandidate = sym same ∙ b.0 in cc
    ]

pub tuning_parted : {X : Type 0} (r : Result X RunFault) (t : Texts) → t.part ≡ whole
    → IfErr r (λ e. e ≢ Write → (¬ IsOutOfMemory e) → (meaning_of t ≡ Err e) ⊎ ((e ≡ NoCandidate) × HasNoCandidate t)) → IfErr r (λ e. e ≢ BadPart)
tuning_parted (Ok x) t is h = tt
tuning_parted (Err e) t is h = not_part e t is h

pub check_parted : {X : Type 0} (r : Result X RunFault) (t : Texts) (demand : Demand) (cert : List ℕ) (old new : OutletView) → t.part ≡ whole
    → IfErr r (λ e. e ≢ Write → (new ≡ old) × ((¬ IsOutOfMemory e) → check_output t demand None cert ≡ Err e)) → IfErr r (λ e. e ≢ BadPart)
check_parted (Ok x) t demand cert old new is h = tt
check_parted (Err e) t demand cert old new is h = not_part e t is (λ other known. inl (of_texts t demand None cert e ((h other).1 known)))
