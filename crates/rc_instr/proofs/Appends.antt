-- Appending keeps what was there.
use Rattle.std.proofs.Common.{◌≡◌, ℕ, List, [], ◌++◌, length, take, sym, ◌∙◌, ap, append_assoc, append-nil}
use Rattle.std.proofs.Math.Seq.{take-append_seam}
use Rattle.rc_instr.specs.Appending.{IsFront}

-- nothing was appended
pub front_of_itself : (a : List ℕ) → IsFront a a
front_of_itself a = record { rest = []; appended = sym (append-nil a) }

-- nothing was appended, from an equation
pub front_of_equal : (a b : List ℕ) → b ≡ a → IsFront a b
front_of_equal a b e = record { rest = []; appended = e ∙ sym (append-nil a) }

-- something was appended
pub front_of_append : (a b c : List ℕ) → b ≡ a ++ c → IsFront a b
front_of_append a b c e = record { rest = c; appended = e }

-- one after another
pub front_of_fronts : (a b c : List ℕ) → IsFront a b → IsFront b c → IsFront a c
front_of_fronts a b c h k =
    record { rest = h.rest ++ k.rest; appended = k.appended ∙ ap (λ x. x ++ k.rest) h.appended ∙ append_assoc a h.rest k.rest }

-- cutting off what was appended leaves the old text
pub cut_back : (a b : List ℕ) → IsFront a b → take (length a) b ≡ a
cut_back a b h = ap (take (length a)) h.appended ∙ take-append_seam a h.rest

pub ruleset appends = (front_of_itself, front_of_equal, front_of_append, front_of_fronts)
