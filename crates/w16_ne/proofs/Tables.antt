-- The tables of a module, from its names as they were put together.
use Rattle.w16_ne.proofs.Common.{◌≡◌, List, ◌++◌, length, drop, refl, ap, ◌∙◌, Entry, first_text, Tables, tables_of}

pub same_tables : (t : Tables) (l m before : List Entry) → t.name ≡ first_text l → t.description ≡ first_text m → before ≡ drop 1 l → t.names ≡ before ++ drop 1 m → t.resident ≡ length before
    → tables_of t.place t.header t.segments l t.references t.entries m t.resources ≡ t
same_tables t l m before name description front names many =
    let all = names ∙ ap (λ xs. xs ++ drop 1 m) front in
    let count = many ∙ ap length front in
    rw (← name, ← description, ← all, ← count) refl
