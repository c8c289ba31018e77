-- Names are told apart by their tags.
use Rattle.std.proofs.Common.{◌≡◌, ◌≢◌, ℕ, zero, suc, ◌==◌, ◌&&◌, true, false, List, [], ◌∷◌, ◌+◌, IfSome, get_or, set, Option, Some, None, refl, ap, arith, fold, replicate, option_map, position, unwrap_or}
use Rattle.std.proofs.lemmas.Slice.Eq.{bytes_eq-Decides}
use Rattle.std.specs.{List.list_any, Str.str_to_ascii_uppercase}
use Rattle.w16_loader.specs.Registry.{first_named}
use Rattle.w16_loader.specs.{declared.entry.Entry.Entry, declared.tagged.Found.Found, Entries.named_of, Tags.AreTags, Tags.name_tag, Tags.tag_after}
use Rattle.w16_model.specs.Table.{by_id}
use Rattle.w16_store.specs.Names.{is_named}
use Rattle.w16_loading.specs.Modules.{name_of}

same_tag : (own name : List ℕ) → is_named own name ≡ true → name_tag own ≡ name_tag name
unfolding is_named name_tag
same_tag own name e =
    let same : str_to_ascii_uppercase own ≡ str_to_ascii_uppercase name = grind (arith, bytes_eq-Decides (str_to_ascii_uppercase own) (str_to_ascii_uppercase name)) in
    ap (fold _ 0) same

-- a name whose tag differs is another
by_tag : (own name : List ℕ) (t u : ℕ) → t ≡ name_tag own → u ≡ name_tag name → ((t == u) && is_named own name) ≡ is_named own name
by_tag own name t u e f = grind (arith, same_tag own name)

pub same_places : {A : Type 0} (found : List (Found A)) (name : List ℕ) (tag : ℕ) → tag ≡ name_tag name → position (λ f. (f.tag == tag) && is_named f.module.name name) found ≡ position (λ f. is_named f.module.name name) found
same_places found name tag e = λ i. position (λ f. by_tag f.module.name name f.tag tag f.tagged e i) found

module _ {A : Type 0} where
  -- an entry comes to a place, or goes from one
  pub set_tags : (es : List (Option (Entry A))) (tags : List ℕ) (place : ℕ) (o : Option (Entry A)) (t : ℕ) → AreTags es tags → IfSome o (λ e. t ≡ name_tag (name_of (named_of e))) → AreTags (set es place o) (set tags place t)
  set_tags [] [] place o t are is = tt
  set_tags [] (u ∷ tags) place o t are is = absurd are
  set_tags (x ∷ es) [] place o t are is = absurd are
  set_tags (x ∷ es) (u ∷ tags) zero o t are is = (is, are.1)
  set_tags (x ∷ es) (u ∷ tags) (suc place) o t are is = (are.0, set_tags es tags place o t are.1 is)

  pub new_tags : (es : List (Option (Entry A))) (tags : List ℕ) (n : ℕ) → es ≡ replicate n None → tags ≡ replicate n 0 → AreTags es tags
  new_tags es tags zero e f = rw (e, f) tt
  new_tags es tags (suc n) e f = rw (e, f) (tt, new_tags (replicate n None) (replicate n 0) n refl refl)

  module _ (name : List ℕ) (t : ℕ) (f : t ≡ name_tag name) where
    -- what stands where another tag is has another name
    pub other_tag : (es : List (Option (Entry A))) (tags : List ℕ) (place d : ℕ) → AreTags es tags → d ≡ get_or tags place d → d ≢ t → false ≡ unwrap_or (option_map (λ e. is_named (name_of (named_of e)) name) (get_or es place None)) false
    other_tag [] tags place d are e other = refl
    other_tag (x ∷ es) [] place d are e other = absurd are
    other_tag (None ∷ es) (u ∷ tags) zero d are e other = refl
    other_tag (Some x ∷ es) (u ∷ tags) zero d are e other = grind (arith, same_tag (name_of (named_of x)) name, are.0)
    other_tag (x ∷ es) (u ∷ tags) (suc place) d are e other = other_tag es tags place d are.1 e other

    -- where nothing has the tag, nothing has the name
    pub none_named : (id : ℕ) (es : List (Option (Entry A))) (tags : List ℕ) → AreTags es tags → list_any (λ u. u == t) tags ≡ false → first_named (by_id (λ _ e. named_of e) id es) name ≡ None
    none_named id [] tags are none = refl
    none_named id (x ∷ es) [] are none = absurd are
    none_named id (None ∷ es) (u ∷ tags) are none = none_named (id + 1) es tags are.1 (grind (arith, none))
    none_named id (Some e ∷ es) (u ∷ tags) are none =
        let other : is_named (name_of (named_of e)) name ≡ false = grind (arith, same_tag (name_of (named_of e)) name, are.0, none) in
        rw other (none_named (id + 1) es tags are.1 (grind (arith, none)))
