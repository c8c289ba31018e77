use Rattle.w16_ne.proofs.Common.{◌++◌, ◌∷◌, [], ◌∙◌, ap, sym, subst, take, arith, add-one, Entry, Finds}
use Rattle.std.proofs.{Math.Seq.take-suc, lemmas.Option.get_or_from_slice_get}
use Rattle.w16_ne.proofs.ordinals.ordinals_of.Goals as goal

pub loop-i-preserved : goal.loop-i-preserved
loop-i-preserved g c =
    let names = c.args.names.now in
    let i = c.loop-i.i in
    let one = get_or_from_slice_get names i _ ([], 0) c.name-ordinal.ensures.found in
    let more = ap (λ k. take k names) (add-one i) ∙ take-suc names i ([], 0) (omega arith) ∙ ap (λ e. take i names ++ e ∷ []) one in
    subst (Finds c.add.new.ordinals) (sym more) (c.in_ok-add.ensures.ok (take i names) c.name-ordinal.result.0.now c.write_upper.ensures c.loop-i.invariant)
