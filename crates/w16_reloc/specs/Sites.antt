-- Sites: the places in a segment's data that are written over.
use Rattle.std.specs.Prelude.{◌≡◌, ℕ, ◌+◌, ◌≤◌, List, [], ◌∷◌, nat_lt, nat_le, ◌&&◌, Bool, false, All, count_by}
use Rattle.std.specs.List.{list_any}

-- so many bytes from an offset on
pub record Site : Type 0 where
  pub at : ℕ
  pub width : ℕ

abbrev pub covers : ℕ → Site → Bool
covers b site = nat_le site.at b && nat_lt b (site.at + site.width)

-- The sites lie in so many bytes, and no byte is covered by two of them.
pub record AreApart (len : ℕ) (sites : List Site) : Type 0 where
  pub inside : All (λ s. s.at + s.width ≤ len) sites
  pub once : (o : ℕ) → count_by (covers o) sites ≤ 1

-- two sites share a byte
abbrev pub meets : Site → Site → Bool
meets a b = nat_lt a.at (b.at + b.width) && nat_lt b.at (a.at + a.width)

-- The same, one site after another: each lies in so many bytes, and shares no byte with those before it.
abbrev pub AreSound : ℕ → List Site → List Site → Type 0
AreSound len before [] = Unit {0}
AreSound len before (site ∷ sites) = (site.at + site.width ≤ len) × (list_any (meets site) before ≡ false) × AreSound len (site ∷ before) sites
