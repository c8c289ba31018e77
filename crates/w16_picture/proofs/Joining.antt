use Rattle.std.proofs.lemmas.List.Elements as M
use Rattle.std.proofs.Common.{◌≡◌, ℕ, suc, ◌+◌, ◌<◌, ◌==◌, Bool, true, false, Option, Some, None, List, [], ◌∷◌, ◌++◌, length, get_or, take, filter, find, cond, option_map, All, Contains, IsSome, refl, sym, ap, subst, ◌∙◌, arith}
use Rattle.std.proofs.{lemmas.Bool.eqb-true, lemmas.List.append-nil, lemmas.List.take_more}
use Rattle.std.specs.{List.cons_option, List.filter_map, Option.option_and_then, Option.option_map_or}
use Rattle.w16_model.specs.declared.Owner.{Owner}
use Rattle.w16_picture.specs.{declared.bands.Band.Band, declared.facts.Source.TheVariants.Script, declared.layout.Rect.Rect, Bands.JoinsObject, Bands.band_to, Bands.handle_in, Bands.is_named, Bands.partner}

-- what stands for the element past a list's end
abbrev pub no_rect : Rect
no_rect = record { left = 0; right = 0; item = record { at = 0; size = 0; owner = None; flags = 0; source = Script; local = None } }

-- one more element, mapped and filtered
pub filter_map-some : {X Y : Type 0} (h : X → Option Y) (xs : List X) (i : ℕ) (d : X) (y : Y) → i < length xs → h (get_or xs i d) ≡ Some y → filter_map h (take (i + 1) xs) ≡ filter_map h (take i xs) ++ y ∷ []
filter_map-some {X} {Y} h xs i d y less e =
    ap (filter_map h) (take_more xs i d less) ∙ M.filter_map-append h (take i xs) (get_or xs i d ∷ []) ∙ ap (λ (p : Option Y). filter_map h (take i xs) ++ cons_option p []) e

pub filter_map-none : {X Y : Type 0} (h : X → Option Y) (xs : List X) (i : ℕ) (d : X) → i < length xs → h (get_or xs i d) ≡ None → filter_map h (take (i + 1) xs) ≡ filter_map h (take i xs)
filter_map-none {X} {Y} h xs i d less e =
    ap (filter_map h) (take_more xs i d less) ∙ M.filter_map-append h (take i xs) (get_or xs i d ∷ []) ∙ ap (λ (p : Option Y). filter_map h (take i xs) ++ cons_option p []) e
    ∙ append-nil (filter_map h (take i xs))

-- one more element, filtered
pub filter-next : {X : Type 0} (p : X → Bool) (xs : List X) (i : ℕ) (d : X) (b : Bool) → i < length xs → p (get_or xs i d) ≡ b → filter p (take (i + 1) xs) ≡ filter p (take i xs) ++ cond b (get_or xs i d ∷ []) []
filter-next {X} p xs i d b less e =
    ap (filter p) (take_more xs i d less) ∙ M.filter-append p (take i xs) (get_or xs i d ∷ []) ∙ ap (λ (c : Bool). filter p (take i xs) ++ cond c (get_or xs i d ∷ []) []) e

find-cons : {X : Type 0} (p : X → Bool) (y : X) (ys : List X) (x : X) (b : Bool) → p y ≡ b → cond b (Some y) (find p ys) ≡ Some x → (find p ys ≡ Some x → Contains ys x × (p x ≡ true)) → Contains (y ∷ ys) x × (p x ≡ true)
find-cons {X} p y ys x true passes is rest =
    let same : y ≡ x = cc in
    (subst (λ (z : X). Contains (y ∷ ys) z) same (M.Contains-append_left (y ∷ []) ys y (M.Contains-push [] y)), subst (λ (z : X). p z ≡ true) same passes)
find-cons p y ys x false fails is rest = let inner = rest is in (M.Contains-append_right (y ∷ []) ys x inner.0, inner.1)

-- what is found is in the list and passes the test
found-in : {X : Type 0} (p : X → Bool) (xs : List X) (x : X) → find p xs ≡ Some x → Contains xs x × (p x ≡ true)
found-in p [] x e = absurd (cc)
found-in {X} p (y ∷ ys) x e = find-cons p y ys x (p y) refl e (λ inner. found-in p ys x inner)

named-handle : (name : ℕ) (rect : Rect) → is_named name rect ≡ true → handle_in rect ≡ Some name
named-handle name rect e = of rect.item.owner e
  where
    of : (o : Option Owner) → option_map_or (λ (owner : Owner). name == owner.name) o false ≡ true → option_map (λ (owner : Owner). owner.name) o ≡ Some name
    of None h = absurd (cc)
    of (Some owner) h = ap Some (sym (eqb-true name owner.name h))

-- the partner is among the rectangles, and shows the same object
found-partner : (rects : List Rect) (o : Option Owner) (from : Rect) → option_and_then (λ (owner : Owner). find (is_named owner.name) rects) o ≡ Some from
    → Contains rects from × IsSome (option_map (λ (owner : Owner). owner.name) o) × (handle_in from ≡ option_map (λ (owner : Owner). owner.name) o)
found-partner rects None from e = absurd (cc)
found-partner rects (Some owner) from e = let found = found-in (is_named owner.name) rects from e in (found.0, refl, named-handle owner.name from found.1)

joins-option : (before after : List Rect) (to : Rect) (o : Option Rect) (bands : List Band) → Contains after to → partner before to ≡ o → All (JoinsObject before after) bands
    → All (JoinsObject before after) (cons_option (option_map (λ (from : Rect). record { from = from; to = to }) o) bands)
joins-option before after to None bands there e rest = rest
joins-option before after to (Some from) bands there e rest =
    let found = found-partner before to.item.owner from e in
    M.All-cons (JoinsObject before after) _ bands (record { from = found.0; to = there; object = found.1; same = found.2 }) rest

-- each band joins the two rectangles of one object
pub joins-all : (before after some : List Rect) → ((k : ℕ) (d : Rect) → k < length some → Contains after (get_or some k d)) → All (JoinsObject before after) (filter_map (band_to before) some)
joins-all before after [] inside = M.All-nil (JoinsObject before after)
joins-all before after (to ∷ some) inside =
    joins-option before after to (partner before to) (filter_map (band_to before) some) (inside 0 to (omega arith)) refl
    (joins-all before after some (λ k d less. inside (suc k) d (omega (arith, less))))
