-- Two lists of blocks, block by block.
use Rattle.w16_arena.proofs.Common as C
use Rattle.std.specs.List.{AllByRecursion as Each}
use Rattle.w16_arena.proofs.Common.{◌≡◌, ℕ, ◌+◌, ◌≤◌, ◌⊎◌, inl, inr, true, false, eqb, List, [], ◌∷◌, Some, None, refl, sym, ap, ◌∙◌, subst, arith, part, Block, Loose, block_end, contents, EachTwo}

pub two_same : (R : Block → Block → Type 0) → ((b : Block) → R b b) → (bs : List Block) → EachTwo R bs bs
two_same R f [] = tt
two_same R f (b ∷ bs) = (f b, two_same R f bs)

pub two_both : (R S T : Block → Block → Type 0) → ((b c : Block) → R b c → S b c → T b c) → (bs cs : List Block) → EachTwo R bs cs → EachTwo S bs cs → EachTwo T bs cs
two_both R S T f [] [] r s = tt
two_both R S T f [] (c ∷ cs) r s = absurd r
two_both R S T f (b ∷ bs) [] r s = absurd r
two_both R S T f (b ∷ bs) (c ∷ cs) r s = (f b c r.0 s.0, two_both R S T f bs cs r.1 s.1)

pub two_then : (R S T : Block → Block → Type 0) → ((a b c : Block) → R a b → S b c → T a c) → (zs bs cs : List Block) → EachTwo R zs bs → EachTwo S bs cs → EachTwo T zs cs
two_then R S T f [] [] [] r s = tt
two_then R S T f [] [] (c ∷ cs) r s = absurd s
two_then R S T f [] (b ∷ bs) cs r s = absurd r
two_then R S T f (a ∷ zs) [] cs r s = absurd r
two_then R S T f (a ∷ zs) (b ∷ bs) [] r s = absurd s
two_then R S T f (a ∷ zs) (b ∷ bs) (c ∷ cs) r s = (f a b c r.0 s.0, two_then R S T f zs bs cs r.1 s.1)

-- a block of the first list has one of the second
pub two_member : (R : Block → Block → Type 0) (bs cs : List Block) → EachTwo R bs cs → (b : Block) → C.Member b bs → (c : Block) × C.Member c cs × R b c
two_member R [] cs two b m = absurd m
two_member R (x ∷ bs) [] two b m = absurd two
two_member R (x ∷ bs) (y ∷ cs) two b (inl e) = (y, inl refl, subst (λ z. R z y) (sym e) two.0)
two_member R (x ∷ bs) (y ∷ cs) two b (inr m) = let r = two_member R bs cs two.1 b m in (r.0, inr r.1, r.2)

-- the same of each id's block
abbrev pub BothOrNone : (Block → Block → Type 0) → C.Option Block → C.Option Block → Type 0
BothOrNone R None None = Unit {0}
BothOrNone R None (Some c) = ⊥
BothOrNone R (Some b) None = ⊥
BothOrNone R (Some b) (Some c) = R b c

pub with_two : (R : Block → Block → Type 0) → ((b c : Block) → R b c → c.id ≡ b.id) → (bs cs : List Block) → EachTwo R bs cs → (q : ℕ) → BothOrNone R (C.block_with bs q) (C.block_with cs q)
with_two R ids [] [] two q = tt
with_two R ids [] (c ∷ cs) two q = absurd two
with_two R ids (b ∷ bs) [] two q = absurd two
with_two R ids (b ∷ bs) (c ∷ cs) two q =
    let same = ids b c two.0 in
    elim (C.eqb_tells b.id q) [
      | inl hit ↦ let other = ap (λ k. eqb k q) same ∙ hit.0 in rw (hit.0, other) two.0
      | inr miss ↦ let other = ap (λ k. eqb k q) same ∙ miss.0 in rw (miss.0, other) (with_two R ids bs cs two.1 q)
    ]

-- blocks with the same contents
abbrev pub SameBytes : List ℕ → List ℕ → Block → Block → Type 0
SameBytes memory after b c = part after c.at c.size ≡ part memory b.at b.size

pub two_contents : (memory after : List ℕ) (bs cs : List Block) → contents after cs ≡ contents memory bs → EachTwo (SameBytes memory after) bs cs
two_contents memory after [] [] e = tt
two_contents memory after [] (c ∷ cs) e = cc
two_contents memory after (b ∷ bs) [] e = cc
two_contents memory after (b ∷ bs) (c ∷ cs) e =
    let rest : contents after cs ≡ contents memory bs = cc in
    let heads : ◌≡◌ {A = ℕ × List ℕ} (c.id, part after c.at c.size) (b.id, part memory b.at b.size) = cc in
    (ap (λ p. p.1) heads, two_contents memory after bs cs rest)

-- where the blocks between two addresses slid
abbrev pub Stands : ℕ → ℕ → Block → Block → Type 0
Stands low high b c = (c ≡ record b { at = c.at }) × ((c.at ≡ b.at) ⊎ ((b.hold ≡ Loose) × (low ≤ c.at) × (block_end c ≤ high) × (low ≤ b.at) × (block_end b ≤ high)))

two_packed : (low high from top to : ℕ) (bs : List Block) → C.IsLaid from top bs → low ≤ to → to ≤ from → Each (C.FitsGap low high) bs → EachTwo (Stands low high) bs (C.packed high to bs)
two_packed low high from top to [] laid le down all = tt
two_packed low high from top to (b ∷ bs) laid le down all =
    let one = laid.0 in
    elim (C.cases_lt b.at high) [
      | inl lt ↦
          let is = C.inside_is low high b laid.1 (omega arith) lt all.0 in
          rw (C.lt-ltb b.at high lt) ((refl, inr (is.1, le, (let end = is.0 in omega arith), omega arith, is.0)), two_packed low high (block_end b) top (to + b.size) bs laid.2 (omega arith) (omega arith) all.1)
      | inr ge ↦ rw (C.le-ltb b.at high ge) (two_same (Stands low high) (λ x. (refl, inl refl)) (b ∷ bs))
    ]

pub two_gathered : (low high from top : ℕ) (bs : List Block) → C.IsLaid from top bs → Each (C.FitsGap low high) bs → EachTwo (Stands low high) bs (C.gathered low high bs)
two_gathered low high from top [] laid all = tt
two_gathered low high from top (b ∷ bs) laid all = elim (C.cases_lt b.at low) [
  | inl lt ↦ rw (C.lt-ltb b.at low lt) ((refl, inl refl), two_gathered low high (block_end b) top bs laid.2 all.1)
  | inr ge ↦ rw (C.le-ltb b.at low ge) (two_packed low high b.at top low (b ∷ bs) (omega arith, laid.1, laid.2) (omega arith) ge all)
]

-- with their bytes
pub two_slides : (low high : ℕ) (memory after : List ℕ) (bs cs : List Block) → EachTwo (Stands low high) bs cs → contents after cs ≡ contents memory bs → EachTwo (C.Slides low high memory after) bs cs
two_slides low high memory after bs cs stand same =
    two_both _ _ _ (λ b c s e. record { same = s.0; place = s.1; bytes = e }) bs cs stand (two_contents memory after bs cs same)
