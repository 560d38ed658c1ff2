-- The ranges of a template are its range lines, in order, and it has a setting.
use Rattle.std.proofs.Common.{◌≡◌, ℕ, ◌+◌, ◌*◌, ◌/◌, ◌≤◌, ◌<◌, Bool, true, false, not, List, [], ◌∷◌, ◌++◌, length, length-append, map, refl, sym, ◌∙◌, ap, arith, append_assoc, subst, nat_lt, drop}
use Rattle.std.specs.Prelude.{ℤ, ◌-ℤ◌, int_lt, nat_le, Result, Ok, Err, if◌then◌else◌, All}
use Rattle.std.specs.List.{filter}
use Rattle.std.specs.Option.{ok_or}
use Rattle.std.specs.Str.{bytes_eq}
use Rattle.std.specs.Cmp.Lexicographic.{nat_list_eq_equiv}
use Rattle.std.proofs.lemmas.Bool.{ltb-true, and_parts, or_parts}
use Rattle.std.proofs.lemmas.List.{append-nil}
use Rattle.std.proofs.lemmas.List.Elements.{All-push, All-nil}
use Rattle.rc_text.specs.NameClasses.{class_of}
use Rattle.rc_text.specs.declared.class.NameClass.{NameClass}
use Rattle.rc_text.specs.declared.class.NameClass.TheVariants.{NoName, Reserved, Predefined, Free}
use Rattle.rc_expand.specs.Names.{is_among}
use Rattle.rc_asm.specs.Limits.{MOST_BYTES}
use Rattle.rc_asm.specs.Instructions.{natural}
use Rattle.tune_template.specs.declared.span.Span.{Span}
use Rattle.tune_template.specs.declared.fault.TemplateKind.{TemplateKind}
use Rattle.tune_template.specs.declared.fault.TemplateKind.TheVariants.{BadLine, DuplicateName, EmptyRange, StartOutside, TooManyConstants, TooManyVectors, TextTooLong}
use Rattle.tune_template.specs.Limits.{MOST_CONSTANTS, MOST_SETTINGS}
use Rattle.tune_template.specs.Lines.{lines_of, words_of, is_range_line}
use Rattle.tune_template.specs.Ranges.{Ranges, ranges, name_checked, span_of_words, with_range, range_of_words, next_range, vector_count, line_added, ranges_from, ranges_of, HasRanges, signed_number, step_number}
use Rattle.tune_template.specs.Spans.{is_outside, span_of}
use Rattle.tune_template.specs.Vectors.{vectors_of}
use Rattle.tune_template.proofs.Counts.{count_push}
use Rattle.tune_template.proofs.VectorSteps.{some_times, vectors_len}
use Rattle.tune_template.specs.Faults.{at_line}
use Rattle.rc_instr.specs.Results.{mapped, with_fault, check}
use Rattle.rc_instr.proofs.Chains.{went_on}
use Rattle.tune_template.specs.Laws.{first_word, name_on, are_distinct, AreOfLines}

ok_same : {A E : Type 0} (x y : A) (r : Result A E) → r ≡ Ok x → r ≡ Ok y → x ≡ y
ok_same x y r e f = cc

-- a span has a value
some_value : (low high : ℤ) (step : ℕ) (start : ℤ) (x : Span) → span_of low high step start ≡ Ok x → 0 < x.count
unfolding span_of
some_value low high step start x e = by_tests (int_lt high low) (is_outside low high step start) e where
  more : (n m : ℕ) → n + 1 ≡ m → 0 < m
  more n m h = omega arith

  by_tests : (a b : Bool) → (if a then Err EmptyRange else if b then Err StartOutside else Ok (record { low = low; step = step; count = natural (high -ℤ low) / step + 1; start = natural (start -ℤ low) / step })) ≡ Ok x → 0 < x.count
  by_tests true b h = cc
  by_tests false true h = cc
  by_tests false false h = more _ x.count (ap (λ q. q.count) (ok_same _ x _ refl h))

-- a name and its span that passed
record Passes (names : List (List ℕ)) (name : List ℕ) (x : Span) : Type 0 where
  free : class_of name ≡ Free
  new : is_among names name ≡ false
  some : 0 < x.count

checked : (names : List (List ℕ)) (name : List ℕ) (c : NameClass) → class_of name ≡ c → name_checked names c name ≡ Ok tt → (class_of name ≡ Free) × (is_among names name ≡ false)
checked names name NoName is e = absurd (cc)
checked names name Reserved is e = absurd (cc)
checked names name Predefined is e = absurd (cc)
checked names name Free is e = by_among (is_among names name) refl e where
  by_among : (b : Bool) → is_among names name ≡ b → ◌≡◌ {A = Result (Unit {0}) TemplateKind} (if b then Err DuplicateName else Ok tt) (Ok tt) → (class_of name ≡ Free) × (is_among names name ≡ false)
  by_among true a h = absurd (cc)
  by_among false a h = (is, a)

span_passes : (names : List (List ℕ)) (name low high step start : List ℕ) (x : Span) → span_of_words names name low high step start ≡ Ok x → Passes names name x
unfolding span_of_words
span_passes names name low high step start x e =
    let l = went_on (ok_or (signed_number low) BadLine) _ x e in
    let h = went_on (ok_or (signed_number high) BadLine) _ x l.2 in
    let b = went_on (ok_or (step_number step) BadLine) _ x h.2 in
    let f = went_on (ok_or (signed_number start) BadLine) _ x b.2 in
    let n = went_on (name_checked names (class_of name) name) (λ _. span_of l.0 h.0 b.0 f.0) x f.2 in
    let c = checked names name (class_of name) refl n.1 in
    record { free = c.0; new = c.1; some = some_value l.0 h.0 b.0 f.0 x n.2 }

words_pass : (r : Ranges) (words : List (List ℕ)) (next : List ℕ × Span) → range_of_words r words ≡ Ok next → (next.0 ≡ first_word words) × Passes r.names next.0 next.1
unfolding range_of_words
words_pass r [] next e = absurd (cc)
words_pass r (a ∷ []) next e = absurd (cc)
words_pass r (a ∷ b ∷ []) next e = absurd (cc)
words_pass r (a ∷ b ∷ c ∷ []) next e = absurd (cc)
words_pass r (a ∷ b ∷ c ∷ d ∷ []) next e = absurd (cc)
words_pass r (a ∷ b ∷ c ∷ d ∷ f ∷ []) next e =
    let s = went_on (span_of_words r.names a b c d f) (λ s. Ok (a, s)) next e in
    let same : (a, s.0) ≡ next = let q = s.2 in cc in
    subst (λ (n : List ℕ × Span). (n.0 ≡ a) × Passes r.names n.0 n.1) same (refl, span_passes r.names a b c d f s.0 s.1)
words_pass r (a ∷ b ∷ c ∷ d ∷ f ∷ g ∷ gs) next e = absurd (cc)

-- the names so far, in order, and settings
record Good (r : Ranges) : Type 0 where
  free : All (λ name. class_of name ≡ Free) r.names
  distinct : are_distinct r.names ≡ true
  few : length r.names ≤ MOST_CONSTANTS
  some : 0 < vector_count r.spans

not_true : (a : Bool) → not a ≡ true → a ≡ false
not_true false h = refl
not_true true h = cc

among_push : (ns : List (List ℕ)) (m n : List ℕ) → is_among ns n ≡ false → bytes_eq m n ≡ false → is_among (ns ++ (m ∷ [])) n ≡ false
among_push [] m n a b = rw b
among_push (k ∷ ns) m n a b =
    let p = or_parts (bytes_eq k n) (is_among ns n) a in
    rw (p.0, among_push ns m n p.1 b)

distinct_push : (ns : List (List ℕ)) (m : List ℕ) → are_distinct ns ≡ true → is_among ns m ≡ false → are_distinct (ns ++ (m ∷ [])) ≡ true
distinct_push [] m d s = refl
distinct_push (n ∷ ns) m d s =
    let p = and_parts (not (is_among ns n)) (are_distinct ns) d in
    let q = or_parts (bytes_eq n m) (is_among ns m) s in
    rw (among_push ns m n (not_true (is_among ns n) p.0) (nat_list_eq_equiv.symm m n ∙ q.0), distinct_push ns m p.1 q.1)

one_more : (r : Ranges) (next : List ℕ × Span) (line : List ℕ) → Good r → next_range r line ≡ Ok next → Good (with_range r next) × (next.0 ≡ name_on line)
one_more r next line g e =
    let n = went_on (check (nat_lt (length r.names) MOST_CONSTANTS) TooManyConstants) _ next e in
    let w = went_on (range_of_words r (words_of (drop 6 line))) _ next n.2 in
    let m = went_on (check (nat_le (vector_count r.spans * w.0.1.count) MOST_SETTINGS) TooManyVectors) _ next w.2 in
    let same : w.0 ≡ next = let q = m.2 in cc in
    let p = subst (λ (x : List ℕ × Span). (x.0 ≡ name_on line) × Passes r.names x.0 x.1) same (words_pass r (words_of (drop 6 line)) w.0 w.1) in
    let room : length r.names < MOST_CONSTANTS = ltb-true (length r.names) MOST_CONSTANTS (passed (nat_lt (length r.names) MOST_CONSTANTS) n.1) in (
      record {
        free = All-push (λ name. class_of name ≡ Free) r.names next.0 g.free p.1.free;
        distinct = distinct_push r.names next.0 g.distinct p.1.new;
        few = omega (arith, room, length-append r.names (next.0 ∷ []));
        some = subst (λ (n : ℕ). 0 < n) (sym (count_push r.spans next.1)) (some_times (vector_count r.spans) next.1.count g.some p.1.some);
      },
      p.0,
    )
  where
    passed : (b : Bool) → check b TooManyConstants ≡ Ok tt → b ≡ true
    passed true h = refl
    passed false h = absurd (cc)

-- what a line adds
line_adds : (n : ℕ) (r t : Ranges) (line : List ℕ) → Good r → line_added n r line ≡ Ok t → Good t × (t.names ≡ r.names ++ map name_on (filter is_range_line (line ∷ [])))
line_adds n r t line g e = by_line (is_range_line line) e where
  by_next : (x : Result (List ℕ × Span) TemplateKind) → next_range r line ≡ x → mapped (with_range r) (with_fault (at_line n) x) ≡ Ok t → Good t × (t.names ≡ r.names ++ name_on line ∷ [])
  by_next (Err k) a h = absurd (cc)
  by_next (Ok next) a h =
      let same : with_range r next ≡ t = cc in
      let m = one_more r next line g a in
      subst (λ (q : Ranges). Good q × (q.names ≡ r.names ++ name_on line ∷ [])) same (m.0, ap (λ x. r.names ++ x ∷ []) m.1)

  by_line : (b : Bool) → (if b then mapped (with_range r) (with_fault (at_line n) (next_range r line)) else Ok r) ≡ Ok t
      → Good t × (t.names ≡ r.names ++ map name_on (if b then line ∷ [] else []))
  by_line false h = let same : r ≡ t = cc in (subst Good same g, ap (λ q. q.names) (sym same) ∙ sym (append-nil r.names))
  by_line true h = by_next (next_range r line) refl h

-- the names of range lines, one line after the other
named_after : (line : List ℕ) (lines : List (List ℕ)) → map name_on (filter is_range_line (line ∷ [])) ++ map name_on (filter is_range_line lines) ≡ map name_on (filter is_range_line (line ∷ lines))
named_after line lines = by_line (is_range_line line) where
  by_line : (b : Bool) → map name_on (if b then line ∷ [] else []) ++ map name_on (filter is_range_line lines) ≡ map name_on (if b then line ∷ filter is_range_line lines else filter is_range_line lines)
  by_line true = refl
  by_line false = refl

from : (n : ℕ) (r s : Ranges) (lines : List (List ℕ)) → Good r → ranges_from n r lines ≡ Ok s → Good s × (s.names ≡ r.names ++ map name_on (filter is_range_line lines))
from n r s [] g e =
    let same : r ≡ s = ok_same r s _ refl e in (subst Good same g, ap (λ q. q.names) (sym same) ∙ sym (append-nil r.names))
from n r s (line ∷ lines) g e =
    let t = went_on (line_added n r line) (λ t. ranges_from (n + 1) t lines) s e in
    let m = line_adds n r t.0 line g t.1 in
    let f = from (n + 1) t.0 s lines m.0 t.2 in
    (f.0, f.1 ∙ (ap (λ l. l ++ map name_on (filter is_range_line lines)) m.1 ∙ (append_assoc r.names _ _ ∙ ap (λ l. r.names ++ l) (named_after line lines))))

good_lines : (text : List ℕ) (r : Ranges) → HasRanges text r → Good r × (r.names ≡ map name_on (filter is_range_line (lines_of text)))
unfolding ranges_of
good_lines text r e =
    let c = went_on (check (nat_le (length text) MOST_BYTES) (at_line 0 TextTooLong)) (λ _. ranges_from 1 (ranges [] []) (lines_of text)) r e in
    let none : Good (ranges [] []) = record { free = All-nil (λ name. class_of name ≡ Free); distinct = refl; few = omega arith; some = omega arith } in
    from 1 (ranges [] []) r (lines_of text) none c.2

pub of_lines : (text : List ℕ) (r : Ranges) → HasRanges text r → AreOfLines text r
of_lines text r e = let f = good_lines text r e in record { names = f.1; free = f.0.free; distinct = f.0.distinct; few = f.0.few }

pub some_setting : (text : List ℕ) (r : Ranges) → HasRanges text r → 0 < length (vectors_of r.spans)
some_setting text r e = subst (λ (n : ℕ). 0 < n) (sym (vectors_len r.spans)) (good_lines text r e).0.some
