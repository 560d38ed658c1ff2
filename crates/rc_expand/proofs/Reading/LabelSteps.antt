-- The labels of a line.
use Rattle.std.proofs.Common.{◌≡◌, ℕ, suc, ◌+◌, ◌-◌, ◌≤◌, ◌<◌, Bool, true, false, List, [], ◌∷◌, ◌++◌, get_or, take, drop, length, length-drop, refl, arith, sym, ◌∙◌, ap, append_assoc}
use Rattle.std.specs.Prelude.{◌&&◌, if◌then◌else◌}
use Rattle.std.proofs.lemmas.List.{drop_all, drop-drop, append-nil}
use Rattle.rc_text.specs.declared.token.Token.{Token}
use Rattle.rc_text.specs.declared.class.NameClass.TheVariants.{NoName, Reserved, Predefined, Free}
use Rattle.rc_text.specs.NameClasses.{is_name, is_reserved, is_predefined, class_of}
use Rattle.rc_expand.specs.Read.Lines.{is_reserved_class, is_ampersand, is_colon, is_unreserved_name, label_goes_on, tail_len, begins_label, LabelSplit, label_split, no_labels}
use Rattle.rc_expand.proofs.Each.{split_at, split_two}

both_true : (a b : Bool) → a && b ≡ true → b ≡ true
both_true true b h = h
both_true false b h = cc

-- the class is Reserved exactly if the name is reserved and is a name
pub reserved_is : (name : List ℕ) → is_reserved_class (class_of name) ≡ (is_reserved name && is_name name)
reserved_is name = by_tests (is_name name) (is_reserved name) (is_predefined name) where
  by_tests : (n r p : Bool) → is_reserved_class (if n then (if r then Reserved else if p then Predefined else Free) else NoName) ≡ (r && n)
  by_tests true true p = refl
  by_tests true false true = refl
  by_tests true false false = refl
  by_tests false true p = refl
  by_tests false false p = refl

module _ (source : List ℕ) where
  short_list : (ts : List Token) → length ts ≤ 1 → label_goes_on source ts ≡ false
  short_list [] h = refl
  short_list (u ∷ []) h = refl
  short_list (u ∷ v ∷ ts) h = absurd (omega arith)

  -- no two tokens are left
  pub goes_on_short : (ts : List Token) (i : ℕ) → length ts - i ≤ 1 → label_goes_on source (drop i ts) ≡ false
  goes_on_short ts i h = short_list (drop i ts) (omega (arith, length-drop i ts))

  -- whether the next two tokens go on
  pub goes_on_at : (ts : List Token) (i : ℕ) (u v : Token) → i + 1 < length ts → u ≡ get_or ts i u → v ≡ get_or ts (i + 1) v → label_goes_on source (drop i ts) ≡ (is_ampersand u && is_unreserved_name source v)
  goes_on_at ts i u v h e f = ap (label_goes_on source) (split_two ts i u v h e f)

  tail_goes_on : (ts : List Token) → label_goes_on source ts ≡ true → tail_len source ts ≡ suc (suc (tail_len source (drop 2 ts)))
  tail_goes_on [] h = cc
  tail_goes_on (u ∷ []) h = cc
  tail_goes_on (u ∷ v ∷ ts) h = rw h

  -- two more tokens of the label
  pub tail_more : (ts : List Token) (i : ℕ) → true ≡ label_goes_on source (drop i ts) → i + tail_len source (drop i ts) ≡ i + 2 + tail_len source (drop (i + 2) ts)
  tail_more ts i h =
      let t : tail_len source (drop i ts) ≡ suc (suc (tail_len source (drop (i + 2) ts))) =
      tail_goes_on (drop i ts) (sym h) ∙ ap (λ r. suc (suc (tail_len source r))) (drop-drop 2 i ts) in
      omega (arith, t)

  ends_list : (u : Token) (ts : List Token) → label_goes_on source (u ∷ ts) ≡ false → tail_len source (u ∷ ts) ≡ (if is_colon u then 1 else 0)
  ends_list u [] h = refl
  ends_list u (v ∷ ts) h = rw h

  colon_one : (b : Bool) (n : ℕ) → n ≡ (if b then 1 else 0) → true ≡ b → n ≡ 1
  colon_one true n e h = e
  colon_one false n e h = cc

  colon_none : (b : Bool) (n : ℕ) → n ≡ (if b then 1 else 0) → false ≡ b → n ≡ 0
  colon_none true n e h = cc
  colon_none false n e h = e

  -- the colon of the label
  pub tail_colon : (ts : List Token) (i : ℕ) (u : Token) → i < length ts → u ≡ get_or ts i u → false ≡ label_goes_on source (drop i ts) → true ≡ is_colon u → tail_len source (drop i ts) ≡ 1
  tail_colon ts i u h e g c =
      let s = split_at ts i u h e in
      let n : tail_len source (drop i ts) ≡ (if is_colon u then 1 else 0) = ap (tail_len source) s ∙ ends_list u (drop (i + 1) ts) (ap (label_goes_on source) (sym s) ∙ sym g) in
      colon_one (is_colon u) (tail_len source (drop i ts)) n c

  -- no colon
  pub tail_none : (ts : List Token) (i : ℕ) (u : Token) → i < length ts → u ≡ get_or ts i u → false ≡ label_goes_on source (drop i ts) → false ≡ is_colon u → tail_len source (drop i ts) ≡ 0
  tail_none ts i u h e g c =
      let s = split_at ts i u h e in
      let n : tail_len source (drop i ts) ≡ (if is_colon u then 1 else 0) = ap (tail_len source) s ∙ ends_list u (drop (i + 1) ts) (ap (label_goes_on source) (sym s) ∙ sym g) in
      colon_none (is_colon u) (tail_len source (drop i ts)) n c

  -- no token is left
  pub tail_end : (ts : List Token) (i : ℕ) → length ts ≤ i → tail_len source (drop i ts) ≡ 0
  tail_end ts i h = ap (tail_len source) (drop_all i ts h)

  -- whether a label begins, by its token
  pub begins_at : (ts : List Token) (i : ℕ) (t : Token) → i < length ts → t ≡ get_or ts i t → begins_label source (drop i ts) ≡ is_unreserved_name source t
  begins_at ts i t h e = ap (begins_label source) (split_at ts i t h e)

  -- no label begins at the end
  pub begins_none : (ts : List Token) (i : ℕ) → length ts ≤ i → begins_label source (drop i ts) ≡ false
  begins_none ts i h = ap (begins_label source) (drop_all i ts h)

  abbrev pub with_labels_before : List (List Token) → LabelSplit → LabelSplit
  with_labels_before ls l = record { labels = ls ++ l.labels; after = l.after }

  no_label : (ts : List Token) → begins_label source ts ≡ false → label_split source ts ≡ no_labels ts
  no_label [] e = refl
  no_label (t ∷ []) e = rw e
  no_label (t ∷ u ∷ []) e = rw e
  no_label (t ∷ u ∷ v ∷ ts) e = rw e

  first_label : (t : Token) (ts : List Token) → is_unreserved_name source t ≡ true → label_split source (t ∷ ts) ≡ record { labels = (t ∷ take (tail_len source ts) ts) ∷ (label_split source (drop (tail_len source ts) ts)).labels; after = (label_split source (drop (tail_len source ts) ts)).after }
  first_label t [] e = rw e
  first_label t (u ∷ []) e = by_colon (is_colon u) refl where
    by_colon : (b : Bool) → is_colon u ≡ b → label_split source (t ∷ u ∷ []) ≡ record { labels = (t ∷ take (tail_len source (u ∷ [])) (u ∷ [])) ∷ (label_split source (drop (tail_len source (u ∷ [])) (u ∷ []))).labels; after = (label_split source (drop (tail_len source (u ∷ [])) (u ∷ []))).after }
    by_colon true c = rw (e, c)
    by_colon false c = rw (e, c)
  first_label t (u ∷ v ∷ ts) e = by_link (is_ampersand u && is_unreserved_name source v) refl (first_label v ts) where
    by_colon : (b : Bool) → is_ampersand u && is_unreserved_name source v ≡ false → is_colon u ≡ b → label_split source (t ∷ u ∷ v ∷ ts) ≡ record { labels = (t ∷ take (tail_len source (u ∷ v ∷ ts)) (u ∷ v ∷ ts)) ∷ (label_split source (drop (tail_len source (u ∷ v ∷ ts)) (u ∷ v ∷ ts))).labels; after = (label_split source (drop (tail_len source (u ∷ v ∷ ts)) (u ∷ v ∷ ts))).after }
    by_colon true l c = rw (e, l, c)
    by_colon false l c = rw (e, l, c)

    by_link : (b : Bool) → is_ampersand u && is_unreserved_name source v ≡ b
        → (is_unreserved_name source v ≡ true → label_split source (v ∷ ts) ≡ record { labels = (v ∷ take (tail_len source ts) ts) ∷ (label_split source (drop (tail_len source ts) ts)).labels; after = (label_split source (drop (tail_len source ts) ts)).after })
        → label_split source (t ∷ u ∷ v ∷ ts) ≡ record { labels = (t ∷ take (tail_len source (u ∷ v ∷ ts)) (u ∷ v ∷ ts)) ∷ (label_split source (drop (tail_len source (u ∷ v ∷ ts)) (u ∷ v ∷ ts))).labels; after = (label_split source (drop (tail_len source (u ∷ v ∷ ts)) (u ∷ v ∷ ts))).after }
    by_link true l ih = rw (e, l, ih (both_true (is_ampersand u) (is_unreserved_name source v) l))
    by_link false l ih = by_colon (is_colon u) l refl

  label_step : (ts : List Token) → true ≡ begins_label source ts
      → label_split source ts ≡ record { labels = take (suc (tail_len source (drop 1 ts))) ts ∷ (label_split source (drop (tail_len source (drop 1 ts)) (drop 1 ts))).labels; after = (label_split source (drop (tail_len source (drop 1 ts)) (drop 1 ts))).after }
  label_step [] b = cc
  label_step (t ∷ ts) b = first_label t ts (sym b)

  after_more : (labels : List (List Token)) (x label : List Token) (l m : LabelSplit) → l ≡ m → x ≡ label → with_labels_before labels (record { labels = x ∷ l.labels; after = l.after }) ≡ with_labels_before (labels ++ (label ∷ [])) m
  after_more labels x label l m e f =
      ap (λ l. with_labels_before labels (record { labels = x ∷ l.labels; after = l.after })) e
      ∙ (ap (λ x. with_labels_before labels (record { labels = x ∷ m.labels; after = m.after })) f
      ∙ ap (λ ls. record { labels = ls; after = m.after }) (sym (append_assoc labels (label ∷ []) m.labels)))

  -- one more label of the line
  pub label_more : (tokens : List Token) (labels : List (List Token)) (at end : ℕ) (label : List Token) → true ≡ begins_label source (drop at tokens) → end ≡ at + 1 + tail_len source (drop (at + 1) tokens)
      → label ≡ take (end - at) (drop at tokens) → label_split source tokens ≡ with_labels_before labels (label_split source (drop at tokens)) → label_split source tokens ≡ with_labels_before (labels ++ (label ∷ [])) (label_split source (drop end tokens))
  label_more tokens labels at end label b e l r =
      let d : drop 1 (drop at tokens) ≡ drop (at + 1) tokens = drop-drop 1 at tokens in
      let n : ℕ = tail_len source (drop 1 (drop at tokens)) in
      let k : tail_len source (drop 1 (drop at tokens)) ≡ tail_len source (drop (at + 1) tokens) = ap (tail_len source) d in
      let p : at + 1 + tail_len source (drop 1 (drop at tokens)) ≡ end = omega (arith, k, e) in
      let q : end - at ≡ suc (tail_len source (drop 1 (drop at tokens))) = omega (arith, p) in
      let tail : drop (tail_len source (drop 1 (drop at tokens))) (drop 1 (drop at tokens)) ≡ drop end tokens =
      ap (drop (tail_len source (drop 1 (drop at tokens)))) d ∙ (drop-drop (tail_len source (drop 1 (drop at tokens))) (at + 1) tokens ∙ ap (λ i. drop i tokens) p) in
      let front : take (suc (tail_len source (drop 1 (drop at tokens)))) (drop at tokens) ≡ label =
      ap (λ i. take i (drop at tokens)) (sym q) ∙ sym l in
      r ∙ (ap (with_labels_before labels) (label_step (drop at tokens) b) ∙ after_more labels (take (suc (tail_len source (drop 1 (drop at tokens)))) (drop at tokens)) label _ (label_split source (drop end tokens)) (ap (label_split source) tail) front)

  -- no label begins here
  pub labels_done : (tokens : List Token) (labels : List (List Token)) (at : ℕ) → false ≡ begins_label source (drop at tokens) → label_split source tokens ≡ with_labels_before labels (label_split source (drop at tokens))
      → label_split source tokens ≡ record { labels = labels; after = drop at tokens }
  labels_done tokens labels at b r = r ∙ (ap (with_labels_before labels) (no_label (drop at tokens) (sym b)) ∙ ap (λ ls. record { labels = ls; after = drop at tokens }) (append-nil labels))

  -- if no label begins after the first, the line has one label
  pub single_label : (tokens : List Token) (end : ℕ) (label : List Token) → true ≡ begins_label source tokens → end ≡ 1 + tail_len source (drop 1 tokens) → label ≡ take end tokens → false ≡ begins_label source (drop end tokens)
      → label_split source tokens ≡ record { labels = label ∷ []; after = drop end tokens }
  single_label tokens end label b e l d =
      let z : end - 0 ≡ end = omega arith in
      labels_done tokens (label ∷ []) end d (label_more tokens [] 0 end label b e (l ∙ ap (λ n. take n tokens) (sym z)) refl)
