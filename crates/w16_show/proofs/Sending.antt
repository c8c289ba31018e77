-- What was sent of a text, and what is left of it.
use Rattle.std.proofs.Common.{subst, ◌≡◌, ℕ, ◌++◌, List, [], ◌∷◌, Bool, true, false, Option, Some, None, refl, sym, ap, ◌∙◌, append_assoc, append-nil, Result, Ok, Err, ◌≤◌, ◌+◌, length, drop, slice_get, map, get_or, Fits, w16, suc, add-one, rules, arith}
use Rattle.std.proofs.{KnownBytes.Appends-nil, KnownBytes.Appends-trans, Math.ListN.drop_of_length-le}
use Rattle.std.specs.{Prelude.OnOk, Prelude.IsTrue, Prelude.if◌then◌else◌, Io.KnownBytes.Appends, Result.is_ok}
use Rattle.json.specs.Print.{escape_byte, quoted}
use Rattle.serde_json.specs.{Data.Data, Data.null, Data.object, Data.Members, Data.no_members, Data.member, View.items_of, Written.comma_if, Written.compact_text, Written.items_text, Written.members_text}
use Rattle.w16_ne.specs.declared.segment_table.Segment.{Segment}
use Rattle.w16_show.specs.{Plain.IsPlain, Plain.ArePlain, Plain.HasPlain, Plain.PassesOn, Plain.put_all, Json.n, Json.list, Json.segment_object, Json.segment_front, Numbered.numbered}
use Rattle.w16_show.proofs.Numbering.{left-from, numbered-next}

-- some of the whole was sent, and this is the rest of it
abbrev pub Leaves : Option (List ℕ) → Option (List ℕ) → List ℕ → List ℕ → Type 0
Leaves held holds rest whole = (done : List ℕ) × Appends held holds done × (done ++ rest ≡ whole)

pub leaves-all : (a : Option (List ℕ)) (whole : List ℕ) → Leaves a a whole whole
leaves-all a whole = ([], Appends-nil a, refl)

pub leaves-less : (a b c : Option (List ℕ)) (t rest whole : List ℕ) → Leaves a b (t ++ rest) whole → Appends b c t → Leaves a c rest whole
leaves-less a b c t rest whole l k = (l.0 ++ t, Appends-trans a b c l.0 t l.1 k, append_assoc l.0 t rest ∙ l.2)

pub leaves-none : (a b : Option (List ℕ)) (whole : List ℕ) → Leaves a b [] whole → Appends a b whole
leaves-none a b whole l = subst (λ t. Appends a b t) (sym (append-nil l.0) ∙ l.2) l.1

-- one more of the things that stand one after another by their numbers
pub leaves-next : {X : Type 0} (gives : ℕ → X → List ℕ) (a b c : Option (List ℕ)) (whole : List ℕ) (m : ℕ) (xs : List X) (i : ℕ) (x : X) → slice_get xs i ≡ Some x
    → Leaves a b (numbered gives m (drop i xs)) whole → Appends b c (gives m x) → Leaves a c (numbered gives (m + 1) (drop (i + 1) xs)) whole
leaves-next gives a b c whole m xs i x got l h = leaves-less a b c (gives m x) (numbered gives (m + 1) (drop (i + 1) xs)) whole (rw (numbered-next gives m xs i x got) at l) h

pub leaves-end : {X : Type 0} (gives : ℕ → X → List ℕ) (a b : Option (List ℕ)) (whole : List ℕ) (m : ℕ) (xs : List X) (i : ℕ) → length xs ≤ i → Leaves a b (numbered gives m (drop i xs)) whole → Appends a b whole
leaves-end gives a b whole m xs i h l = leaves-none a b whole (subst (λ r. Leaves a b (numbered gives m r) whole) (drop_of_length-le xs h) l)

-- A list of which some items were sent, and these are the rest. All are plain where the rest is.
abbrev pub LeavesItems : Option (List ℕ) → Option (List ℕ) → Bool → List Data → List Data → Type 0
LeavesItems held holds later rest all = Leaves held holds (items_text later (items_of rest)) (compact_text (list all)) × (ArePlain (items_of rest) → ArePlain (items_of all))

pub items-begin : (a b : Option (List ℕ)) (all : List Data) → Appends a b (91 ∷ []) → LeavesItems a b false all all
items-begin a b all h = (leaves-less a a b (91 ∷ []) _ _ (leaves-all a (compact_text (list all))) h, λ p. p)

pub items-more : (a b c : Option (List ℕ)) (later : Bool) (d : Data) (rest all : List Data) → LeavesItems a b later (d ∷ rest) all → Appends b c (comma_if later ++ compact_text d) → IsPlain d → LeavesItems a c true rest all
items-more a b c later d rest all l h p =
    (leaves-less a b c (comma_if later ++ compact_text d) (items_text true (items_of rest)) _ (subst (λ t. Leaves a b t (compact_text (list all))) (sym (append_assoc (comma_if later) (compact_text d) _)) l.0) h, λ q. l.1 (p, q))

pub items-step : {X : Type 0} (json : X → Data) (a b c : Option (List ℕ)) (later : Bool) (all : List Data) (xs : List X) (i : ℕ) (x : X) → slice_get xs i ≡ Some x
    → LeavesItems a b later (map json (drop i xs)) all → Appends b c (comma_if later ++ compact_text (json x)) → IsPlain (json x) → LeavesItems a c true (map json (drop (i + 1) xs)) all
items-step json a b c later all xs i x got l h p = rw (add-one i) (items-more a b c later (json x) (map json (drop (suc i) xs)) all (rw (left-from xs i x got) at l) h p)

-- what a thing gives, which is one item or none
pub items-passed : (a b c : Option (List ℕ)) (later now : Bool) (ds rest all : List Data) → LeavesItems a b later (ds ++ rest) all → PassesOn b c later now ds → LeavesItems a c now rest all
items-passed a b c later now [] rest all l h = rw h.1 (leaves-less a b c [] _ _ l.0 h.0, l.1)
items-passed a b c later now (d ∷ []) rest all l h = rw h.2 (items-more a b c later d rest all l h.0 h.1)
items-passed a b c later now (d ∷ e ∷ ds) rest all l h = absurd h

pub items-end : (a b c : Option (List ℕ)) (later : Bool) (all : List Data) → LeavesItems a b later [] all → Appends b c (93 ∷ []) → Appends a c (compact_text (list all)) × IsPlain (list all)
items-end a b c later all l h = (leaves-none a c _ (leaves-less a b c (93 ∷ []) [] _ l.0 h), l.1 tt)

pub items-next : {X : Type 0} (gives : ℕ → X → List Data) (a b c : Option (List ℕ)) (later now : Bool) (all : List Data) (m : ℕ) (xs : List X) (i : ℕ) (x : X) → slice_get xs i ≡ Some x
    → LeavesItems a b later (numbered gives m (drop i xs)) all → PassesOn b c later now (gives m x) → LeavesItems a c now (numbered gives (m + 1) (drop (i + 1) xs)) all
items-next gives a b c later now all m xs i x got l h = items-passed a b c later now (gives m x) _ all (rw (numbered-next gives m xs i x got) at l) h

pub items-last : {X : Type 0} (gives : ℕ → X → List Data) (a b c : Option (List ℕ)) (later : Bool) (all : List Data) (m : ℕ) (xs : List X) (i : ℕ) → length xs ≤ i
    → LeavesItems a b later (numbered gives m (drop i xs)) all → Appends b c (93 ∷ []) → Appends a c (compact_text (list all)) × IsPlain (list all)
items-last gives a b c later all m xs i none l h = items-end a b c later all (subst (λ r. LeavesItems a b later (numbered gives m r) all) (drop_of_length-le xs none) l) h

pub on-ok : {E A B : Type 0} (r : Result (Unit {0}) E) → OnOk r A → (A → B) → OnOk r B
on-ok (Ok u) h f = f h
on-ok (Err e) h f = tt

-- where a text was put behind another
pub on-pushed : {E B : Type 0} (r : Result (Unit {0}) E) (new old t : List ℕ) → new ≡ (if is_ok r then old ++ t else old) → (new ≡ old ++ t → B) → OnOk r B
on-pushed (Ok u) new old t h f = f h
on-pushed (Err e) new old t h f = tt

-- all of a list's items were put behind a text
pub items-all : {X : Type 0} (json : X → Data) (xs : List X) (i : ℕ) (later : Bool) (out whole : List ℕ) → length xs ≤ i → out ++ items_text later (items_of (map json (drop i xs))) ≡ whole → out ++ 93 ∷ [] ≡ whole
items-all json xs i later out whole h e = rw (drop_of_length-le xs h) at e

pub plain-numbers : (xs : List ℕ) → ((k : ℕ) → Fits w16 (get_or xs k 0)) → ArePlain (items_of (map n xs))
plain-numbers [] h = tt
plain-numbers (x ∷ xs) h = (omega (arith, h 0), plain-numbers xs (λ k. h (suc k)))

-- The members of an object were sent one after another: the key, or all before the value, and the value.
abbrev pub opening : Bool → List ℕ → List ℕ
opening later k = (if later then 44 ∷ [] else 123 ∷ []) ++ (quoted k ++ 58 ∷ [])

abbrev pub AreSent : Bool → Option (List ℕ) → Members → Option (List ℕ) → Type 0
AreSent later a no_members e = (a ≡ e) × IsTrue later
AreSent later a (member k d ms) e = (b : Option (List ℕ)) × (c : Option (List ℕ)) × Appends a b (opening later k) × (Appends b c (compact_text d) × IsPlain d) × AreSent true c ms e

abbrev pub members_in : Data → Members
members_in (object ms) = ms
members_in other = no_members

joined : (start key d rest : List ℕ) → ((start ++ (key ++ 58 ∷ [])) ++ d) ++ rest ≡ start ++ (key ++ 58 ∷ (d ++ rest))
joined start key d rest = search (rules, append_assoc)

more-sent : (ms : Members) (a e f : Option (List ℕ)) → AreSent true a ms e → Appends e f (125 ∷ []) → Appends a f (members_text true ms) × HasPlain ms
more-sent no_members a e f h closed = (subst (λ b. Appends b f (125 ∷ [])) (sym h.0) closed, tt)
more-sent (member k d ms) a e f h closed =
    let rest = more-sent ms h.1 e f h.4 closed in
    (subst (λ t. Appends a f t) (joined (44 ∷ []) (quoted k) (compact_text d) (members_text true ms)) (Appends-trans a h.1 f _ _ (Appends-trans a h.0 h.1 _ _ h.2 h.3.0) rest.0), (h.3.1, rest.1))

pub object-sent : (ms : Members) (a e f : Option (List ℕ)) → put_all ms no_members ≡ ms → AreSent false a ms e → Appends e f (125 ∷ []) → Appends a f (compact_text (object ms)) × IsPlain (object ms)
object-sent no_members a e f ordered h closed = let e : false ≡ true = h.1 in cc
object-sent (member k d ms) a e f ordered h closed =
    let rest = more-sent ms h.1 e f h.4 closed in
    (subst (λ t. Appends a f t) (joined (123 ∷ []) (quoted k) (compact_text d) (members_text true ms)) (Appends-trans a h.1 f _ _ (Appends-trans a h.0 h.1 _ _ h.2 h.3.0) rest.0), (ordered, (h.3.1, rest.1)))

pub sent-parts : (a b c d : Option (List ℕ)) (x y z t : List ℕ) → Appends a b (x ++ y) → Appends b c z → Appends c d t → Appends a d (x ++ (y ++ (z ++ t)))
sent-parts a b c d x y z t p q r = simp append_assoc at (Appends-trans a c d _ t (Appends-trans a b c (x ++ y) z p q) r)

-- a segment's text, from what stands before its records
pub segment-text : (i : ℕ) (s : Segment) (records : List Data) → compact_text (segment_object i s null records) ≡ segment_front i s ++ (compact_text (list records) ++ 125 ∷ [])
unfolding escape_byte
segment-text i s records = search (rules, append_assoc)
