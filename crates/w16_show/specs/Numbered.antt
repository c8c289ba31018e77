-- Things one after another, by their numbers.
use Rattle.std.specs.Prelude.{ℕ, suc, List, [], ◌∷◌, ◌++◌}

-- what each gives with its number, one after another
abbrev pub numbered : {X Y : Type 0} → (ℕ → X → List Y) → ℕ → List X → List Y
numbered gives n [] = []
numbered gives n (x ∷ xs) = gives n x ++ numbered gives (suc n) xs
