-- What a block added to a list keeps of it.
use Rattle.w16_blocks.proofs.Common.{ℕ, ◌≡◌, ◌≢◌, ◌+◌, ◌<◌, ◌≤◌, List, [], ◌∷◌, sum_by, arith, refl, sym, ap, ◌∙◌, inl, inr, lt-ltb, le-ltb, cases_lt, sum_by-cons, AllByRecursion, Block, IsLaid, block_end, IsApart, placed, AreNamed}

pub placed_after : (b c : Block) (cs : List Block) → c.at < b.at → placed b (c ∷ cs) ≡ c ∷ placed b cs
placed_after b c cs lt = rw (lt-ltb c.at b.at lt) refl

pub placed_before : (b c : Block) (cs : List Block) → b.at ≤ c.at → placed b (c ∷ cs) ≡ b ∷ c ∷ cs
placed_before b c cs le = rw (le-ltb c.at b.at le) refl

pub placed_first : (b : Block) (cs : List Block) → AllByRecursion (λ c. b.at ≤ c.at) cs → placed b cs ≡ b ∷ cs
placed_first b [] all = refl
placed_first b (c ∷ cs) all = placed_before b c cs all.0

pub All-placed : (P : Block → Type 0) (b : Block) (bs : List Block) → P b → AllByRecursion P bs → AllByRecursion P (placed b bs)
All-placed P b [] p all = (p, tt)
All-placed P b (c ∷ cs) p all = elim (cases_lt c.at b.at) [
  | inl lt ↦ rw (lt-ltb c.at b.at lt) (all.0, All-placed P b cs p all.1)
  | inr le ↦ rw (le-ltb c.at b.at le) (p, (all.0, all.1))
]

pub IsLaid-placed : (low high : ℕ) (b : Block) (bs : List Block) → low ≤ b.at → 0 < b.size → block_end b ≤ high → AllByRecursion (λ c. IsApart b c) bs → IsLaid low high bs → IsLaid low high (placed b bs)
IsLaid-placed low high b [] above some inside all laid = (above, some, inside)
IsLaid-placed low high b (c ∷ cs) above some inside all laid =
    let from = laid.0 in let size = laid.1 in
    elim (cases_lt c.at b.at) [
      | inl lt ↦ rw (lt-ltb c.at b.at lt) (elim all.0 [
        | inl before ↦ absurd (omega arith)
        | inr after ↦ (from, size, IsLaid-placed (block_end c) high b cs after some inside all.1 laid.2)
      ])
      | inr le ↦ rw (le-ltb c.at b.at le) (elim all.0 [
        | inl before ↦ (above, some, (before, size, laid.2))
        | inr after ↦ absurd (omega arith)
      ])
    ]

pub AreNamed-placed : (cap : ℕ) (b : Block) (bs : List Block) → b.id < cap → AllByRecursion (λ c. c.id ≢ b.id) bs → AreNamed cap bs → AreNamed cap (placed b bs)
AreNamed-placed cap b [] lt all named = (lt, tt, tt)
AreNamed-placed cap b (c ∷ cs) lt all named = elim (cases_lt c.at b.at) [
  | inl below ↦ rw (lt-ltb c.at b.at below) (named.0, All-placed (λ e. e.id ≢ c.id) b cs (λ e. all.0 (sym e)) named.1, AreNamed-placed cap b cs lt all.1 named.2)
  | inr le ↦ rw (le-ltb c.at b.at le) (lt, (all.0, all.1), named)
]

pub sum-placed : (f : Block → ℕ) (b : Block) (bs : List Block) → sum_by f (placed b bs) ≡ f b + sum_by f bs
sum-placed f b [] = sum_by-cons f b []
sum-placed f b (c ∷ cs) = elim (cases_lt c.at b.at) [
  | inl lt ↦
      let first = sum_by-cons f c (placed b cs) in let old = sum_by-cons f c cs in
      ap (sum_by f) (placed_after b c cs lt) ∙ (let rest = sum-placed f b cs in omega arith)
  | inr le ↦ ap (sum_by f) (placed_before b c cs le) ∙ sum_by-cons f b (c ∷ cs)
]
