use Rattle.std.proofs.Common.{◌≡◌, length, get_or, sym, arith, rules}
use Rattle.std.proofs.lemmas.Bool.Decides.{nat_tests}
use Rattle.w16_store.proofs.Listing.{string-found, string-other, string-none}
use Rattle.w16_store.proofs.places.find_name.Goals as goal

pub returns-in_err-found : goal.returns-in_err-found
returns-in_err-found c =
    let is : c.unwrap_or-place.result ≡ get_or c.args.places.now c.first_from-at.result (length c.args.names.now) = grind (arith, nat_tests) in
    let none = string-none c.args.names.now c.args.places.now c.args.name.now _ _ _ c.requires.rising c.requires.whole c.requires.all c.first_from-at.ensures is c.in_err-found.ensures.lookup.3 in
    rw c.from_residual.ensures (sym none)

pub returns-then-is_named : goal.returns-then-is_named
returns-then-is_named c =
    let is : c.unwrap_or-place.result ≡ get_or c.args.places.now c.first_from-at.result (length c.args.names.now) = grind (arith, nat_tests) in
    let at = c.in_ok-found.ensures.lookup in
    let found = string-found c.args.names.now c.args.places.now c.args.name.now _ _ _ c.requires.rising c.requires.whole c.requires.all c.first_from-at.ensures is c.in_ok-found.found.now at.3.0 at.1 (search rules) in
    rw c.as_str.ensures.value (sym found)

pub returns-else-is_named : goal.returns-else-is_named
returns-else-is_named c =
    let is : c.unwrap_or-place.result ≡ get_or c.args.places.now c.first_from-at.result (length c.args.names.now) = grind (arith, nat_tests) in
    let at = c.in_ok-found.ensures.lookup in
    let none = string-other c.args.names.now c.args.places.now c.args.name.now _ _ _ c.requires.rising c.requires.whole c.requires.all c.first_from-at.ensures is c.in_ok-found.found.now at.3.0 at.1 (search rules) in
    sym none
