-- What a table of names finds.
use Rattle.std.proofs.Common.{◌≡◌, ℕ, ◌+◌, Bool, true, false, cond, ◌||◌, not, List, [], ◌∷◌, ◌++◌, Option, None, Some, refl, ◌∙◌, ap, arith}
use Rattle.std.specs.Prelude.{is_some, if◌then◌else◌, nat_lt, unwrap_or}
use Rattle.std.specs.Str.{bytes_eq}
use Rattle.std.specs.Cmp.Lexicographic.{nat_list_eq_equiv}
use Rattle.std.specs.Map.{lookup}
use Rattle.std.proofs.lemmas.Bool.{le-ltb, lt-ltb}
use Rattle.indexmap.specs.IndexMap.{insert_entry}
use Rattle.rc_expand.specs.Names.{entry_of, is_among}
use Rattle.rc_expand.specs.NameTables.{with_name, names_in}

none_there : {A : Type 0} (o : Option A) → is_some o ≡ false → o ≡ None
none_there None h = refl
none_there (Some x) h = cc

module _ {A : Type 0} (name : List ℕ) where
  -- the first entry with the name
  pub lookup_finds : (table : List (List ℕ × A)) → lookup (bytes_eq name) table ≡ entry_of table name
  lookup_finds [] = refl
  lookup_finds (e ∷ es) = ap (λ o. cond (bytes_eq name e.0) (Some e.1) o) (lookup_finds es)

  -- whether a look-up in the entries finds the name
  pub sees : (entries table : List (List ℕ × A)) → entries ≡ table → is_some (lookup (bytes_eq name) entries) ≡ is_some (entry_of table name)
  sees entries table e = ap is_some (lookup_finds entries ∙ ap (λ t. entry_of t name) e)

  -- what a look-up for a name finds
  pub finds : (entries table : List (List ℕ × A)) (spelled : List ℕ) → entries ≡ table → spelled ≡ name → lookup (bytes_eq spelled) entries ≡ entry_of table name
  finds entries table spelled e n = ap (λ s. lookup (bytes_eq s) entries) n ∙ (lookup_finds entries ∙ ap (λ t. entry_of t name) e)

  -- and whether it does not
  pub sees_none : (entries table : List (List ℕ × A)) → entries ≡ table → is_some (entry_of table name) ≡ false → lookup (bytes_eq name) entries ≡ None
  sees_none entries table e h = none_there (lookup (bytes_eq name) entries) (sees entries table e ∙ h)

  -- a name that is there leaves the table as it is
  pub name_there : (table : List (List ℕ × A)) (value : A) → is_some (entry_of table name) ≡ true → with_name table name value ≡ table
  name_there table value h = rw h

  -- a name that is not there is one more
  pub name_new : (table : List (List ℕ × A)) (value : A) → is_some (entry_of table name) ≡ false → with_name table name value ≡ table ++ ((name, value) ∷ [])
  name_new table value h = rw h

  -- a name gets the value that it has already, or else a new one
  put_kept : (table : List (List ℕ × A)) (value : A) → insert_entry bytes_eq table name (unwrap_or (entry_of table name) value) ≡ with_name table name value
  put_kept [] value = refl
  put_kept (e ∷ es) value = by_name (bytes_eq name e.0) (put_kept es value) where
    spread : (b : Bool) → e ∷ (if b then es else es ++ ((name, value) ∷ [])) ≡ (if b then e ∷ es else (e ∷ es) ++ ((name, value) ∷ []))
    spread true = refl
    spread false = refl

    by_name : (b : Bool) → insert_entry bytes_eq es name (unwrap_or (entry_of es name) value) ≡ with_name es name value
        → (if b then (e.0, unwrap_or (if b then Some e.1 else entry_of es name) value) ∷ es else e ∷ insert_entry bytes_eq es name (unwrap_or (if b then Some e.1 else entry_of es name) value))
        ≡ (if is_some (if b then Some e.1 else entry_of es name) then e ∷ es else (e ∷ es) ++ ((name, value) ∷ []))
    by_name true h = refl
    by_name false h = ap (λ l. e ∷ l) h ∙ spread (is_some (entry_of es name))

  -- the table after `or_insert`
  pub kept_first : (entries table new : List (List ℕ × A)) (value put : A) (o : Option A) → entries ≡ table → new ≡ insert_entry bytes_eq entries name put → put ≡ unwrap_or o value → o ≡ lookup (bytes_eq name) entries
      → new ≡ with_name table name value
  kept_first entries table new value put o e n v l =
      let found : o ≡ entry_of table name = l ∙ (lookup_finds entries ∙ ap (λ t. entry_of t name) e) in
      n ∙ (ap (λ t. insert_entry bytes_eq t name put) e ∙ (ap (insert_entry bytes_eq table name) (v ∙ ap (λ x. unwrap_or x value) found) ∙ put_kept table value))

  -- it is longer exactly if the name is new
  pub longer_if_new : (entries table : List (List ℕ × A)) (before after : ℕ) (o : Option A) → entries ≡ table → after ≡ before + (if is_some o then 0 else 1) → o ≡ lookup (bytes_eq name) entries
      → nat_lt before after ≡ not (is_some (entry_of table name))
  longer_if_new entries table before after o e n l =
      by_found o n ∙ ap (λ x. not (is_some x)) (l ∙ (lookup_finds entries ∙ ap (λ t. entry_of t name) e)) where
        by_found : (x : Option A) → after ≡ before + (if is_some x then 0 else 1) → nat_lt before after ≡ not (is_some x)
        by_found None h = lt-ltb before after (omega (arith, h))
        by_found (Some v) h = le-ltb before after (omega (arith, h))

  -- the same, if the bytes are the bytes of the name
  pub name_pushed : (table new : List (List ℕ × A)) (bytes : List ℕ) (value : A) → new ≡ with_name table bytes value → bytes ≡ name → is_some (entry_of table name) ≡ false
      → new ≡ table ++ ((name, value) ∷ [])
  name_pushed table new bytes value e b h = e ∙ (ap (λ n. with_name table n value) b ∙ name_new table value h)

  -- it is found where it is among the names
  pub seen_found : (table : List (List ℕ × A)) → is_some (entry_of table name) ≡ is_among (names_in table) name
  seen_found [] = refl
  seen_found (e ∷ es) = by_name (bytes_eq name e.0) (bytes_eq e.0 name) (nat_list_eq_equiv.symm name e.0) (seen_found es) where
    by_name : (b c : Bool) → b ≡ c → is_some (entry_of es name) ≡ is_among (names_in es) name → is_some (if b then Some e.1 else entry_of es name) ≡ (c || is_among (names_in es) name)
    by_name true true s h = refl
    by_name true false s h = cc
    by_name false true s h = cc
    by_name false false s h = h
