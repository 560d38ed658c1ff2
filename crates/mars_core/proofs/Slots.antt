-- Facts about the slots in which a queue is kept.
use Rattle.std.proofs.Common.{rules, ◌≡◌, ℕ, ◌<◌, ◌≤◌, ◌+◌, ◌-◌, arith, List, [], ◌∷◌, ◌++◌, length, drop, take, refl, sym, ◌∙◌, ap}
use Rattle.std.specs.Prelude.{Some, None, slice_get, slice_set, get_or}
use Rattle.std.specs.List.{copy_within}
use Rattle.std.proofs.lemmas.List.{length-drop, length-take-le, drop-append-le, get_or-drop, get_or-take, same_lists, places}
use Rattle.std.proofs.lemmas.Grind.{take-set_at, get_or_after_one}
use Rattle.std.proofs.lemmas.Option.{slice_get-get_or, slice_get_past}
use Rattle.mars_core.specs.Queue.{held_in}

-- there are as many tasks as slots from the first to the end
pub length_held : (slots : List ℕ) (first end : ℕ) → end ≤ length slots → length (held_in slots first end) ≡ end - first
length_held slots first end h = length-drop first (take end slots) ∙ ap (λ n. n - first) (length-take-le end slots h)

-- the task at i is in the slot i after the first
pub held_at : (slots : List ℕ) (first end i task : ℕ) → end ≤ length slots → i < end - first → task ≡ get_or slots (first + i) 0 → Some task ≡ slice_get (held_in slots first end) i
held_at slots first end i task h l e =
    let n = length_held slots first end h in
    let here : get_or (held_in slots first end) i 0 ≡ task = get_or-drop first (take end slots) i 0 ∙ get_or-take end slots (first + i) 0 (omega arith) ∙ sym e in
    ap Some (sym here) ∙ sym (slice_get-get_or (held_in slots first end) i 0 (omega (arith, n)))

-- past the last task there is none
pub held_past : (slots : List ℕ) (first end i : ℕ) → end ≤ length slots → end - first ≤ i → None ≡ slice_get (held_in slots first end) i
held_past slots first end i h l = let n = length_held slots first end h in sym (slice_get_past (held_in slots first end) i (omega (arith, n)))

-- what is written after the last task changes no task
pub held_kept : (slots : List ℕ) (first end x : ℕ) → end < length slots → held_in (slice_set slots end x) first end ≡ held_in slots first end
held_kept slots first end x l = same_lists _ _ (search (rules, places)) (λ k d h. grind (arith, places))

-- and is the last task if the end moves on
pub held_pushed : (slots : List ℕ) (first end x : ℕ) → first ≤ end → end < length slots → held_in (slice_set slots end x) first (end + 1) ≡ held_in slots first end ++ x ∷ []
held_pushed slots first end x l h =
    let all = length-take-le end slots (omega arith) in
    ap (drop first) (take-set_at slots end (end + 1) x refl h) ∙ drop-append-le first (take end slots) (x ∷ []) (omega (arith, all))

-- without the first task
pub held_rest : (slots : List ℕ) (first end : ℕ) → held_in slots (first + 1) end ≡ drop 1 (held_in slots first end)
held_rest slots first end = same_lists _ _ (search (rules, places)) (λ k d h. grind (arith, places, get_or_after_one))

-- the first task taken out, and one appended
pub held_replaced : (slots : List ℕ) (first end x : ℕ) → first < end → end < length slots →
    held_in (slice_set slots end x) (first + 1) (end + 1) ≡ drop 1 (held_in slots first end) ++ x ∷ []
held_replaced slots first end x l h =
    held_pushed slots (first + 1) end x (omega arith) h ∙ ap (λ xs. xs ++ x ∷ []) (held_rest slots first end)

-- moved to the front
pub held_moved : (slots : List ℕ) (first end : ℕ) → first ≤ end → end ≤ length slots → held_in (copy_within slots first end 0) 0 (end - first) ≡ held_in slots first end
held_moved slots first end l m = same_lists _ _ (search (rules, places)) (λ k d h. grind (arith, places))

pub ruleset slots = (length_held, held_at, held_past, held_kept, held_pushed, held_rest, held_replaced, held_moved)
