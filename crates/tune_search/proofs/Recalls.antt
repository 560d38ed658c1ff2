-- What a look-up in the cache finds.
use Rattle.std.proofs.Common.{◌≡◌, ℕ, Bool, true, false, cond, List, [], ◌∷◌, ◌++◌, Option, Some, None, map, refl, sym, ◌∙◌, ap, subst}
use Rattle.std.specs.List.{AllByRecursion}
use Rattle.std.specs.Map.{lookup, lookup_entry, remove_entry}
use Rattle.std.specs.Option.{option_map_or}
use Rattle.std.specs.Cmp.Lexicographic.{bytes_decides}
use Rattle.lru.specs.LruCache.{promoted}
use Rattle.rc_instr.specs.Rules.{IsRules, RulesView}
use Rattle.rc_instr.specs.Warrior.{Fits, IsWarrior, WarriorView}
use Rattle.rc_instr.specs.LoadText.{load_text}
use Rattle.rc_instr.proofs.Loads.{one_warrior}
use Rattle.tune_problem.specs.Problem.{Problem}
use Rattle.tune_problem.specs.declared.cert.Row.{Row}
use Rattle.tune_problem.proofs.Certificates.{some_is}
use Rattle.tune_search.specs.Recent.{OneHas, NoneHas}
use Rattle.tune_search.specs.Cache.{same_text}
use Rattle.tune_search.specs.State.{IsKnown}
use Rattle.tune_problem.specs.declared.aim.Aim.{Aim}
use Rattle.tune_search.specs.declared.fought.Fought.{Fought}
use Rattle.tune_search.specs.declared.method.Method.{Method}

alike_text : (a b : List ℕ) → same_text a b ≡ true → a ≡ b
alike_text a b h = (bytes_decides a b).0 h

text_alike : (a : List ℕ) → same_text a a ≡ true
text_alike a = (bytes_decides a a).1 refl

module _ (p : Problem) (rules : RulesView) (hold : IsRules rules) (aim : Aim) (method : Method) (rows : List Row) (k : ℕ) (w : WarriorView) (made : IsWarrior w) (fits : Fits rules w) where
  abbrev test : List ℕ → Bool
  test = same_text (load_text rules.core w)

  -- what was found, what is left, and how they stood
  pub record Recalled (known : List (List ℕ × Fought)) (u : Fought) : Type 0 where
    pub entry : List ℕ × Fought
    pub is : lookup_entry test known ≡ Some entry
    pub vector : entry.1 ≡ u
    pub has : OneHas p w u.vector (map (λ e. e.1.vector) known)
    pub rest : map (λ e. e.1.vector) (remove_entry test known) ≡ has.front ++ has.back
    pub known_one : IsKnown p rules aim method rows k entry
    pub known_rest : AllByRecursion (IsKnown p rules aim method rows k) (remove_entry test known)

  same_warrior : (e : List ℕ × Fought) → IsKnown p rules aim method rows k e → test e.0 ≡ true → p.warrior e.1.vector ≡ Some w
  same_warrior e h t =
      let text : load_text rules.core w ≡ load_text rules.core h.warrior = alike_text (load_text rules.core w) e.0 t ∙ h.text in
      let same : w ≡ h.warrior = one_warrior rules w h.warrior hold made h.is_warrior fits h.fits text in
      h.candidate ∙ ap Some (sym same)

  pub found : (known : List (List ℕ × Fought)) (u : Fought) → AllByRecursion (IsKnown p rules aim method rows k) known → lookup test known ≡ Some u → Recalled known u
  found [] u all h = absurd (cc)
  found (e ∷ es) u all h = (elim (test e.0) as (λ b. test e.0 ≡ b → cond b (Some e.1) (lookup test es) ≡ Some u → Recalled (e ∷ es) u) [
    | true ↦ λ t g.
        let same : e.1 ≡ u = cc in
        record {
          entry = e;
          is = ap (λ b. cond b (Some e) (lookup_entry test es)) t;
          vector = same;
          has = record { front = []; back = map (λ e. e.1.vector) es; split = ap (λ (n : Fought). n.vector ∷ map (λ e. e.1.vector) es) same; alike = subst (λ (n : Fought). p.warrior n.vector ≡ Some w) same (same_warrior e all.0 t) };
          rest = ap (λ b. map (λ e. e.1.vector) (cond b es (e ∷ remove_entry test es))) t;
          known_one = all.0;
          known_rest = subst (λ (b : Bool). AllByRecursion (IsKnown p rules aim method rows k) (cond b es (e ∷ remove_entry test es))) (sym t) all.1;
        }
    | false ↦ λ t g.
        let on = found es u all.1 g in
        record {
          entry = on.entry;
          is = ap (λ b. cond b (Some e) (lookup_entry test es)) t ∙ on.is;
          vector = on.vector;
          has = record { front = e.1.vector ∷ on.has.front; back = on.has.back; split = ap (λ l. e.1.vector ∷ l) on.has.split; alike = on.has.alike };
          rest = ap (λ b. map (λ e. e.1.vector) (cond b es (e ∷ remove_entry test es))) t ∙ ap (λ l. e.1.vector ∷ l) on.rest;
          known_one = on.known_one;
          known_rest = subst (λ (b : Bool). AllByRecursion (IsKnown p rules aim method rows k) (cond b es (e ∷ remove_entry test es))) (sym t) (all.0, on.known_rest);
        }
  ]) refl h

  pub none_found : (known : List (List ℕ × Fought)) → AllByRecursion (IsKnown p rules aim method rows k) known → lookup test known ≡ None → NoneHas p w (map (λ e. e.1.vector) known)
  none_found [] all h = tt
  none_found (e ∷ es) all h = (elim (test e.0) as (λ b. test e.0 ≡ b → cond b (Some e.1) (lookup test es) ≡ None → NoneHas p w (map (λ e. e.1.vector) (e ∷ es))) [
    | true ↦ λ t g. absurd (cc)
    | false ↦ λ t g. (
      λ is.
          let same : all.0.warrior ≡ w = some_is _ _ (sym all.0.candidate ∙ is) in
          let text : load_text rules.core w ≡ e.0 = ap (load_text rules.core) (sym same) ∙ sym all.0.text in
          let yes : test e.0 ≡ true = ap (λ l. same_text (load_text rules.core w) l) (sym text) ∙ text_alike (load_text rules.core w) in
          absurd (cc),
      none_found es all.1 g,
    )
  ]) refl h

  -- after the look-up the one found stands first
  pub promoted_is : (known : List (List ℕ × Fought)) (u : Fought) (f : Recalled known u) → map (λ e. e.1.vector) (promoted test known) ≡ u.vector ∷ (f.has.front ++ f.has.back)
  promoted_is known u f =
      ap (λ o. map (λ e. e.1.vector) (option_map_or (λ e. e ∷ remove_entry test known) o known)) f.is
      ∙ ap (λ (n : Fought). n.vector ∷ map (λ e. e.1.vector) (remove_entry test known)) f.vector ∙ ap (λ l. u.vector ∷ l) f.rest

  pub promoted_known : (known : List (List ℕ × Fought)) (u : Fought) (f : Recalled known u) → AllByRecursion (IsKnown p rules aim method rows k) (promoted test known)
  promoted_known known u f =
      subst (λ (o : Option (List ℕ × Fought)). AllByRecursion (IsKnown p rules aim method rows k) (option_map_or (λ e. e ∷ remove_entry test known) o known)) (sym f.is) (f.known_one, f.known_rest)
