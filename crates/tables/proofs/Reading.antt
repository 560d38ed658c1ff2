-- What a read takes off the records that are left.
use Rattle.std.proofs.Common.{◌≡◌, ◌≤◌, ◌<◌, ◌+◌, ℕ, zero, suc, Bool, true, false, List, [], ◌∷◌, ◌++◌, length, Some, None, refl, sym, ap, ◌∙◌, arith, add-one, Bor, inl, inr, ◌⊎◌}
use Rattle.std.specs.Bool.{MatchBool}
use Rattle.std.specs.Prelude.{Option, Result, Ok, Err, IfOk, if◌then◌else◌}
use Rattle.csv.specs.Machine.{Read, next_record, step, ends_at_end, is_end, fields_after, field_after}
use Rattle.csv.specs.Reading.{NextIs, Ready, ReadsNext, ReadRecord, reader_trim, default_config, pending_of, records_from, records_next, source_of}
use Rattle.csv.specs.declared.parser.Config.{Config}
use Rattle.csv.specs.declared.parser.State.{State}
use Rattle.csv.specs.declared.parser.State.TheVariants as st
use Rattle.csv.specs.declared.reader.Reader.{Reader}
use Rattle.csv.specs.declared.reader.Trim.TheVariants as trim
use Rattle.csv.specs.declared.error.Error.{Error}
use Rattle.tables.specs.Records.{TakesAll, TakesAllOrFailed, records_left}

-- a read of a text of k bytes leaves fewer, or is at the end of the text
abbrev pub Shortens : ℕ → Option Read → Type 0
Shortens k None = Unit {0}
Shortens k (Some p) = (length p.2 < k) ⊎ ((p.1 ≡ st.StartRecord) × (p.2 ≡ []))

-- such a read is also one of a longer text
shortens_more : (k : ℕ) (o : Option Read) → Shortens k o → Shortens (suc k) o
shortens_more k None h = tt
shortens_more k (Some p) (inl l) = inl (omega arith)
shortens_more k (Some p) (inr e) = inr e

-- a read of an empty text is at its end
shortens_last : (s : State) (fields : List (List ℕ)) (b : Bool) → Shortens 0 (if b then Some (fields, st.StartRecord, []) else None)
shortens_last s fields true = inr (refl, refl)
shortens_last s fields false = tt

-- a read of one byte leaves fewer
shortens_step : (k : ℕ) (b : Bool) (p : Read) (o : Option Read) → length p.2 < k → Shortens k o → Shortens k (if b then Some p else o)
shortens_step k true p o l h = inl l
shortens_step k false p o l h = h

-- each read of a record is such a read
pub shortens : (cfg : Config) (s : State) (fields : List (List ℕ)) (field text : List ℕ) → Shortens (length text) (next_record cfg s fields field text)
unfolding next_record
shortens cfg s fields field [] = shortens_last s (fields ++ (field ∷ [])) (ends_at_end s)
shortens cfg s fields field (c ∷ rest) =
    let a = step cfg s c in
    shortens_step (suc (length rest)) (is_end a.1) (fields_after a.1 fields field, a.0, rest) _ (omega arith)
    (shortens_more (length rest) _ (shortens cfg a.0 (fields_after a.1 fields field) (field_after a.1 c field) rest))

-- an empty text has no records, whatever the count
pub none_left : (cfg : Config) (n : ℕ) → records_from cfg n st.StartRecord [] ≡ []
unfolding records_from next_record
none_left cfg zero = refl
none_left cfg (suc n) = refl

-- two counts that agree on shorter texts agree on what a read leaves
same_next : (cfg : Config) (n m k : ℕ) (o : Option Read) → Shortens k o → k ≤ n → k ≤ m
    → ((s : State) (text : List ℕ) → length text < n → length text < m → records_from cfg n s text ≡ records_from cfg m s text)
    → records_next (records_from cfg n) o ≡ records_next (records_from cfg m) o
same_next cfg n m k None h a b same = refl
same_next cfg n m k (Some p) (inl l) a b same = ap (λ (t : List (List (List ℕ))). p.0 ∷ t) (same p.1 p.2 (omega arith) (omega arith))
same_next cfg n m k (Some p) (inr e) a b same = rw (e.0, e.1, none_left cfg n, none_left cfg m) refl

-- a count above the length of a text is enough
pub enough : (cfg : Config) (n m : ℕ) (s : State) (text : List ℕ) → length text < n → length text < m → records_from cfg n s text ≡ records_from cfg m s text
unfolding records_from
enough cfg zero m s text a b = absurd (omega arith)
enough cfg (suc n) zero s text a b = absurd (omega arith)
enough cfg (suc n) (suc m) s text a b = same_next cfg n m (length text) _ (shortens cfg s [] [] text) (omega arith) (omega arith) (λ t u. enough cfg n m t u)

-- a read's record is the first of those that were left, and what it leaves are the others
next_taken : (s2 : State) (found : Bool) (fields : List (List ℕ)) (k : ℕ) (rest : List ℕ) (o : Option Read) → Shortens k o → NextIs o found fields s2 rest
    → MatchBool found (records_next (records_from default_config k) o ≡ fields ∷ records_from default_config (length rest + 1) s2 rest) (records_next (records_from default_config k) o ≡ [])
next_taken s2 found fields k rest None h n = rw n refl
next_taken s2 found fields k rest (Some p) (inl l) n =
    rw n.0 (rw (n.1, n.2, n.3) (ap (λ (t : List (List (List ℕ))). p.0 ∷ t) (enough default_config k (length p.2 + 1) p.1 p.2 l (omega arith))))
next_taken s2 found fields k rest (Some p) (inr e) n =
    rw n.0 (rw (n.1, n.2, n.3, e.0, e.1) (ap (λ (t : List (List (List ℕ))). p.0 ∷ t) (none_left default_config k ∙ sym (none_left default_config 1))))

-- the first record of what a state and bytes have left, and the others
pub taken : (s s2 : State) (text : List ℕ) (after : Option (List ℕ)) (found : Bool) (fields : List (List ℕ)) → ReadsNext default_config s (Some text) after found fields s2
    → MatchBool found (records_left s (Some text) ≡ fields ∷ records_left s2 after) (records_left s (Some text) ≡ [])
unfolding records_left records_from
taken s s2 text None found fields r = absurd r
taken s s2 text (Some rest) found fields r = rw add-one (next_taken s2 found fields (length text) rest _ (shortens default_config s [] [] text) r)

-- the bytes of a slice are known
abbrev pub bytes_of : Bor (List ℕ) → Option (List ℕ)
bytes_of s = Some s.now

-- one of two texts is left
some_unread : (r : Reader (Bor (List ℕ))) (b : Bool) (x y : List ℕ) → (text : List ℕ) × (◌≡◌ {A = Option (List ℕ)} (if b then Some x else Some y) (Some text))
some_unread r true x y = (x, refl)
some_unread r false x y = (y, refl)

-- the bytes of a reader that has not failed are known
known : (r : Reader (Bor (List ℕ))) → r.failed ≡ false → (text : List ℕ) × (source_of bytes_of r ≡ Some text)
known r e = rw e (some_unread r _ _ _)

-- a read of a reader that has not failed
pub taken_off : (a b : Reader (Bor (List ℕ))) (found : Bool) (fields : List (List ℕ)) → a.failed ≡ false → TakesAll a → ReadRecord bytes_of a b found fields
    → MatchBool found (records_left a.state (source_of bytes_of a) ≡ fields ∷ records_left b.state (source_of bytes_of b)) (records_left a.state (source_of bytes_of a) ≡ [])
taken_off a b found fields e plain r =
    let k = known a e in
    let t = taken a.state b.state k.0 (pending_of (bytes_of b.rdr) b) found fields (rw (plain.config, k.1) at r.0) in
    rw (k.1, r.1) t

-- the records that a reader has left
abbrev pub left_of : Reader (Bor (List ℕ)) → List (List (List ℕ))
left_of r = records_left r.state (source_of bytes_of r)

-- a reader that has failed has nothing left
none_of_failed : (r : Reader (Bor (List ℕ))) → r.failed ≡ true → left_of r ≡ []
unfolding records_left
none_of_failed r e = rw e refl

-- what a read finds, whether or not the reader had failed
read_going : (a b : Reader (Bor (List ℕ))) (found : Bool) (fields : List (List ℕ)) (failed : Bool) → a.failed ≡ failed → TakesAllOrFailed a
    → (reader_trim a ≡ trim.None → Ready a → ReadRecord bytes_of a b found fields) → (failed ≡ true → ◌≡◌ {A = Result Bool Error} (Ok found) (Ok false))
    → MatchBool found (left_of a ≡ fields ∷ left_of b) (left_of a ≡ [])
read_going a b found fields true e plain reads failed =
    let none : found ≡ false = cc (failed refl) in
    rw none (none_of_failed a e)
read_going a b found fields false e plain reads failed =
    let p = plain e in
    taken_off a b found fields e p (reads p.trim p.ready)

-- what a read returns, in terms of the records that are left
read_found : (a b : Reader (Bor (List ℕ))) (fields : List (List ℕ)) (res : Result Bool Error) → TakesAllOrFailed a
    → IfOk res (λ found. reader_trim a ≡ trim.None → Ready a → ReadRecord bytes_of a b found fields) → (a.failed ≡ true → res ≡ Ok false)
    → IfOk res (λ found. MatchBool found (left_of a ≡ fields ∷ left_of b) (left_of a ≡ []))
read_found a b fields (Ok found) plain reads failed = read_going a b found fields a.failed refl plain reads failed
read_found a b fields (Err e) plain reads failed = tt

-- the records that a reader has left, which are none once a read has met the end or has failed
abbrev pub still_left : Bool → Reader (Bor (List ℕ)) → List (List (List ℕ))
still_left ended r = if ended then [] else left_of r

-- a read that finds a record takes it off the records that are left
pub one_taken : (a b : Reader (Bor (List ℕ))) (fields : List (List ℕ)) (res : Result Bool Error) (ended : Bool) → ended ≡ false → res ≡ Ok true → TakesAllOrFailed a
    → IfOk res (λ found. reader_trim a ≡ trim.None → Ready a → ReadRecord bytes_of a b found fields) → (a.failed ≡ true → res ≡ Ok false)
    → still_left ended a ≡ fields ∷ still_left ended b
one_taken a b fields res ended going is plain reads failed =
    let found = read_found a b fields res plain reads failed in
    rw going (rw is at found)

-- if a read finds none, none was left
pub none_taken : (a b : Reader (Bor (List ℕ))) (fields : List (List ℕ)) (res : Result Bool Error) (ended : Bool) → ended ≡ false → res ≡ Ok false → TakesAllOrFailed a
    → IfOk res (λ found. reader_trim a ≡ trim.None → Ready a → ReadRecord bytes_of a b found fields) → (a.failed ≡ true → res ≡ Ok false)
    → still_left ended a ≡ []
none_taken a b fields res ended going is plain reads failed =
    let found = read_found a b fields res plain reads failed in
    rw going (rw is at found)
