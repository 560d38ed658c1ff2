-- The lines of the expansion, line by line, and their labels.
use Rattle.std.proofs.Common.{◌≡◌, Bool, true, false, List, [], ◌∷◌, ◌++◌, Some, ℕ, ◌+◌, ◌<◌, ◌≤◌, length, map, drop, get_or, refl, sym, ◌∙◌, ap, append_assoc}
use Rattle.std.specs.Prelude.{◌≢◌, ◌||◌, not, Result, Ok, Err, if◌then◌else◌, is_some}
use Rattle.std.proofs.lemmas.List.{drop_all, map-append}
use Rattle.rc_text.specs.declared.token.Token.{Token}
use Rattle.rc_text.specs.Symbols.{name_of}
use Rattle.rc_expand.specs.declared.fault.ExpandFault.{ExpandFault}
use Rattle.rc_expand.specs.declared.fault.ExpandKind.TheVariants.{DuplicateName}
use Rattle.rc_expand.specs.declared.read.raw_line.RawLine.{RawLine}
use Rattle.rc_expand.specs.declared.read.raw_line.RawWord.{RawWord}
use Rattle.rc_expand.specs.declared.read.raw_line.RawWord.TheVariants as word
use Rattle.rc_expand.specs.declared.line.Line.{Line}
use Rattle.rc_instr.specs.Results.{mapped, and_then}
use Rattle.rc_expand.specs.Results.{at_line}
use Rattle.rc_expand.specs.Contexts.{ContextView}
use Rattle.rc_expand.specs.Names.{entry_of, is_among, is_taken}
use Rattle.rc_expand.specs.NameTables.{with_name, names_in}
use Rattle.rc_expand.specs.Read.Lines.{label_token}
use Rattle.rc_expand.specs.Replace.Lines.{own_labels, own_label_then, other_labels, others_here_or_later, line_of, names_of, with_names, LinesSoFarView, with_expanded_line, line_added, line_replaced, lines_replaced, nothing_replaced, replaced}
use Rattle.rc_expand.proofs.Each.{split_at}
use Rattle.rc_expand.proofs.Reading.TableFound.{seen_found, name_new as is_pushed}

module _ (source : List ℕ) where
  -- a label that is one name is the next of a line
  pub own_more : (labels : List (List Token)) (l : List Token) (after : List (List Token)) (t : Token) (own : List Token) → labels ≡ l ∷ after → Some t ≡ label_token source l
      → own ++ own_labels source labels ≡ (own ++ (t ∷ [])) ++ own_labels source after
  own_more labels l after t own e s =
      ap (λ ls. own ++ own_labels source ls) e ∙ (ap (λ o. own ++ own_label_then source o (own_labels source after)) (sym s) ∙ sym (append_assoc own (t ∷ []) (own_labels source after)))

  -- the labels that are none come later
  pub other_more : (labels : List (List Token)) (l : List Token) (after : List (List Token)) (t : Token) → labels ≡ l ∷ after → Some t ≡ label_token source l
      → other_labels source labels ≡ other_labels source after
  other_more labels l after t e s = ap (other_labels source) e ∙ ap (λ o. others_here_or_later source o (l ∷ after) (other_labels source after)) (sym s)

module _ (s : ContextView) (number : ℕ) (rest : List Token) (t : Token) (after : List Token) (e : rest ≡ t ∷ after) (before : List (List ℕ)) where
  -- one name, and the names after it
  names_step : with_names s number (map (name_of s.source) rest) before ≡ and_then (with_names s number (map (name_of s.source) after)) (with_names s number (name_of s.source t ∷ []) before)
  names_step = ap (λ ts. with_names s number (map (name_of s.source) ts) before) e ∙ by_test (is_taken s.given (name_of s.source t) || is_among before (name_of s.source t)) where
    by_test : (b : Bool) → (if b then Err (at_line number DuplicateName) else with_names s number (map (name_of s.source) after) (before ++ (name_of s.source t ∷ [])))
        ≡ and_then (with_names s number (map (name_of s.source) after)) (if b then Err (at_line number DuplicateName) else Ok (before ++ (name_of s.source t ∷ [])))
    by_test true = refl
    by_test false = refl

  pub name_next : (now : List (List ℕ)) → with_names s number (name_of s.source t ∷ []) before ≡ Ok now
      → with_names s number (map (name_of s.source) rest) before ≡ with_names s number (map (name_of s.source) after) now
  name_next now h = names_step ∙ ap (and_then (with_names s number (map (name_of s.source) after))) h

  pub name_fails : (f : ExpandFault) → with_names s number (name_of s.source t ∷ []) before ≡ Err f → with_names s number (map (name_of s.source) rest) before ≡ Err f
  name_fails f h = names_step ∙ ap (and_then (with_names s number (map (name_of s.source) after))) h

not_true : (b : Bool) → not b ≡ true → b ≡ false
not_true false h = refl
not_true true h = cc

not_false : (b : Bool) → not b ≡ false → b ≡ true
not_false true h = refl
not_false false h = cc

-- one name, by whether it is taken or defined already
module _ {A : Type 0} (s : ContextView) (number : ℕ) (name : List ℕ) (table : List (List ℕ × A)) where
  pub name_taken : is_taken s.given name ≡ true → with_names s number (name ∷ []) (names_in table) ≡ Err (at_line number DuplicateName)
  name_taken h = rw h

  pub name_there : (added : Bool) → is_taken s.given name ≡ false → added ≡ false → added ≡ not (is_some (entry_of table name)) → with_names s number (name ∷ []) (names_in table) ≡ Err (at_line number DuplicateName)
  name_there added h k e = let m : is_among (names_in table) name ≡ true = sym (seen_found name table) ∙ not_false (is_some (entry_of table name)) (sym e ∙ k) in rw (h, m)

  pub name_new : (added : Bool) (value : A) (new : List (List ℕ × A)) → is_taken s.given name ≡ false → added ≡ true → added ≡ not (is_some (entry_of table name)) → new ≡ with_name table name value
      → with_names s number (name ∷ []) (names_in table) ≡ Ok (names_in new)
  name_new added value new h k e w =
      let f : is_some (entry_of table name) ≡ false = not_true (is_some (entry_of table name)) (sym e ∙ k) in
      let m : is_among (names_in table) name ≡ false = sym (seen_found name table) ∙ f in
      let n : names_in new ≡ names_in table ++ (name ∷ []) = ap names_in (w ∙ is_pushed name table value f) ∙ map-append (λ x. x.0) table ((name, value) ∷ []) in
      rw (h, m) (ap Ok (sym n))

module _ (s : ContextView) where
  -- the names of a line are new, and the line is made
  pub line_made : (h : RawLine) (r : LinesSoFarView) (names : List (List ℕ)) (l : Line) (lines : List Line) → with_names s h.number (names_of s.source h) r.names ≡ Ok names → h.word ≢ word.Equ → line_of s h ≡ Ok l
      → lines ≡ r.lines ++ (l ∷ []) → line_replaced s h r ≡ Ok (record { names = names; lines = lines })
  line_made h r names l lines d w e p =
      ap (and_then (line_added s h.word h r.lines)) d
      ∙ by_word h.word w
      ∙ ap (mapped (with_expanded_line r.lines names)) e
      ∙ (λ x. Ok (record { names = names; lines = sym p x }))
    where
      by_word : (v : RawWord) → v ≢ word.Equ → line_added s v h r.lines names ≡ mapped (with_expanded_line r.lines names) (line_of s h)
      by_word word.Equ w = absurd (w refl)
      by_word _ w = refl

  module _ (hs : List RawLine) (i : ℕ) (r : LinesSoFarView) where
    module _ (one : RawLine) (some : i < length hs) (is : one ≡ get_or hs i one) where
      -- one line, and the lines after it
      line_step : lines_replaced s (drop i hs) r ≡ and_then (lines_replaced s (drop (i + 1) hs)) (line_replaced s one r)
      line_step = ap (λ ls. lines_replaced s ls r) (split_at hs i one some is)

      pub line_next : (new : LinesSoFarView) → line_replaced s one r ≡ Ok new → lines_replaced s (drop i hs) r ≡ lines_replaced s (drop (i + 1) hs) new
      line_next new h = line_step ∙ ap (and_then (lines_replaced s (drop (i + 1) hs))) h

      pub line_fails : (f : ExpandFault) → line_replaced s one r ≡ Err f → lines_replaced s (drop i hs) r ≡ Err f
      line_fails f h = line_step ∙ ap (and_then (lines_replaced s (drop (i + 1) hs))) h

    -- no line is left
    pub lines_end : length hs ≤ i → lines_replaced s (drop i hs) r ≡ Ok r
    lines_end h = ap (λ ls. lines_replaced s ls r) (drop_all i hs h)

  -- the lines of the definition
  pub all_replaced : (hs : List RawLine) (r : Result LinesSoFarView ExpandFault) (o : Result (List Line) ExpandFault) → lines_replaced s hs nothing_replaced ≡ r → mapped (λ x. x.lines) r ≡ o → replaced s hs ≡ o
  unfolding replaced
  all_replaced hs r o h k = ap (mapped (λ x. x.lines)) h ∙ k
