use Rattle.std.proofs.{Common.ℕ, Common.map, Common.rules, lemmas.List.Sorted.IsPartitionPoint-from_clause}
use Rattle.std.specs.{Ordering.is_lt, String.string_bytes}
use Rattle.w16_store.specs.{Names.name_cmp, Places.name_at}
use Rattle.w16_store.proofs.Listing.{is_partitioned}
use Rattle.w16_store.proofs.places.first_from.Goals as goal

pub returns : goal.returns
returns c =
    let names = map string_bytes c.args.names.now in
    let name = c.args.name.now in
    IsPartitionPoint-from_clause (λ (p : ℕ). is_lt (name_cmp (name_at names p) name)) _ _ c.partition_point.ensures.partitioned (is_partitioned names c.args.places.now name c.requires) (λ a r q k. search rules)
