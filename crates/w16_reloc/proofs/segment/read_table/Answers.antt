use Rattle.w16_reloc.proofs.Common.{◌≡◌, ◌+◌, ◌*◌, ◌<◌, ◌≤◌, ℕ, List, Ok, Result, sym, length, arith, err_from_is_err_and, RelocFault}
use Rattle.w16_reloc.proofs.{Refusals.fails_on, FileLemmas.table_inside}
use Rattle.w16_reloc.proofs.segment.read_table.Goals as goal

pub returns-in_err-read_bytes-clause-exact : goal.returns-in_err-read_bytes-clause-exact
returns-in_err-read_bytes-clause-exact g c = λ file count honest has counted.
    let p = err_from_is_err_and c.from_residual-in_err-read_bytes.result c.from_residual-in_err-read_bytes.ensures.1 in
    let read = c.in_ok-count.ensures.exact file count honest has counted in
    let same : count ≡ c.in_ok-count.count = cc (read) in
    let inside : 0 < 8 * c.in_ok-count.count → c.args.end + 2 + 8 * c.in_ok-count.count ≤ length file = λ some. table_inside file c.args.flags c.args.end c.in_ok-count.count (rw (← same) counted) (omega (arith, some)) in
    let said = c.in_err-read_bytes.ensures.exact file honest (rw c.in_ok-count.ensures.stays.same has) inside in
    rw (p.1, p.2) (fails_on _ _ _ c.in_err-read_bytes.field-0.0 _ (Ok count) c.in_ok-count.ensures.stays.counted said (λ e. cc (e)))

held_of : (x y : List ℕ) → ◌≡◌ {A = Result (List ℕ) RelocFault} (Ok x) (Ok y) → x ≡ y
held_of x y h = cc

pub returns-clause-records : goal.returns-clause-records
returns-clause-records g c = λ file count honest has counted.
    let read = c.in_ok-count.ensures.exact file count honest has counted in
    let same : count ≡ c.in_ok-count.count = cc (read) in
    let inside : 0 < 8 * c.in_ok-count.count → c.args.end + 2 + 8 * c.in_ok-count.count ≤ length file = λ some. table_inside file c.args.flags c.args.end c.in_ok-count.count (rw (← same) counted) (omega (arith, some)) in
    let said = c.in_ok-read_bytes.ensures.exact file honest (rw c.in_ok-count.ensures.stays.same has) inside in
    rw same (sym (held_of _ _ said))
