-- Queues of tasks.
use Rattle.std.proofs.Common.{◌≡◌, ℕ, ◌+◌, ◌<◌, ◌≤◌, arith, List, [], ◌∷◌, ◌++◌, length, drop, take, get_or, true, false, refl, sym, ◌∙◌, ap, subst}
use Rattle.std.proofs.lemmas.Bool.Decides.{nat_tests}
use Rattle.std.specs.Prelude.{Option, Some, slice_get, slice_index, unwrap_or, nat_lt, if◌then◌else◌}
use Rattle.std.proofs.lemmas.List.{length-take-le, take_more}
use Rattle.std.proofs.lemmas.List.Elements.{All-tail, All-drop, All-push, All-head, All-get_or}
use Rattle.mars_core.specs.Core.{AreTasks}
use Rattle.mars_core.specs.Queue.{queue, queue_with}
use Rattle.mars_core.specs.State.{appended}

-- a list whose first item is x
pub first_is : (xs : List ℕ) (x : ℕ) → Some x ≡ slice_get xs 0 → xs ≡ x ∷ drop 1 xs
first_is [] x e = absurd (cc)
first_is (y ∷ ys) x e = let h : x ≡ y = cc in rw h refl

pub first_below : (m : ℕ) (xs : List ℕ) (x : ℕ) → Some x ≡ slice_get xs 0 → AreTasks m xs → x < m
first_below m xs x e h =
    let k : AreTasks m (x ∷ drop 1 xs) = subst (λ (ys : List ℕ). AreTasks m ys) (first_is xs x e) h in
    All-head (λ t. t < m) x (drop 1 xs) k.each

pub rest_below : (m : ℕ) (xs : List ℕ) → AreTasks m xs → AreTasks m (drop 1 xs)
rest_below m xs h = record { each = All-drop (λ t. t < m) 1 xs h.each }

pub appended_below : (m limit : ℕ) (queued tasks : List ℕ) → AreTasks m tasks → AreTasks m queued → AreTasks m (appended limit tasks queued)
appended_below m limit [] tasks h k = h
appended_below m limit (t ∷ ts) tasks h k =
    appended_below m limit ts (if nat_lt (length tasks) limit then tasks ++ t ∷ [] else tasks)
    (elim (nat_lt (length tasks) limit) as (λ b. AreTasks m (if b then tasks ++ t ∷ [] else tasks))
    [ true ↦ record { each = All-push (λ t. t < m) tasks t h.each (All-head (λ t. t < m) t ts k.each) } | false ↦ h ])
    (record { each = All-tail (λ t. t < m) t ts k.each })

-- a queue that has a task has room without it
pub room : (xs : List ℕ) (limit : ℕ) → 0 < length xs → length xs ≤ limit → length (drop 1 xs) < limit
room [] limit some le = absurd (omega arith)
room (x ∷ xs) limit some le = omega arith

pub room_test : (xs : List ℕ) (limit : ℕ) → 0 < length xs → length xs ≤ limit → nat_lt (length (drop 1 xs)) limit ≡ true
room_test xs limit some le = let l : length (drop 1 xs) < limit = room xs limit some le in grind (arith, nat_tests)

-- the next task of a list is appended to those before it
pub next_copied : (xs : List ℕ) (limit i task : ℕ) → i < length xs → length xs ≤ limit → task ≡ get_or xs i 0 →
    queue_with (queue (take i xs) limit) (task ∷ []) ≡ queue (take (i + 1) xs) limit
next_copied xs limit i task l le e =
    let n = length-take-le i xs (omega arith) in
    let has_room : nat_lt (length (take i xs)) limit ≡ true = grind (arith, nat_tests) in
    rw has_room (ap (λ (tasks : List ℕ). queue tasks limit) (ap (λ t. take i xs ++ t ∷ []) e ∙ sym (take_more xs i 0 l)))

-- the first task of a queue that has one
pub first_of_some : (xs : List ℕ) (o : Option ℕ) (x : ℕ) → 0 < length xs → o ≡ slice_get xs 0 → x ≡ unwrap_or o 0 → Some x ≡ slice_get xs 0
first_of_some [] o x some h e = absurd (omega arith)
first_of_some (y ∷ ys) o x some h e = ap Some (e ∙ ap (λ p. unwrap_or p 0) h)

-- each task is below the size
pub item_below : (m : ℕ) (tasks : List ℕ) (i x : ℕ) → AreTasks m tasks → i < length tasks → x ≡ slice_index tasks i → x < m
item_below m tasks i x h l e = rw e (All-get_or (λ t. t < m) tasks i 0 l h.each)

pub ruleset queues = (first_is, first_below, rest_below, appended_below)
