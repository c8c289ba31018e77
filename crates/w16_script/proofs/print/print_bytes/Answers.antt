use Rattle.w16_script.proofs.Common.{◌≡◌, codes, ◌++◌, [], ◌∷◌, arith, append-nil, Appends-nil, on_err_weaker, encode_lower, reply_text}
use Rattle.w16_script.proofs.{WriteLemmas.on_err, WriteLemmas.AppendsFront-between, PrintLemmas.bytes_text}
use Rattle.w16_loading.specs.Replies as replies
use Rattle.w16_script.proofs.print.print_bytes.Goals as goal

pub returns-in_err-write_whole-clause-err : goal.returns-in_err-write_whole-clause-err
returns-in_err-write_whole-clause-err g c =
    let text : reply_text (replies.Reply.Bytes c.args.bytes.now) ≡ codes "bytes " ++ (encode_lower c.args.bytes.now ++ 10 ∷ []) = bytes_text c.args.bytes.now (grind arith) in
    on_err c.from_residual.result (rw text (AppendsFront-between _ _ [] _ (Appends-nil _) c.in_err-write_whole.ensures.err))

pub returns-clause-err : goal.returns-clause-err
returns-clause-err g c =
    let digits = encode_lower c.args.bytes.now ++ 10 ∷ [] in
    let text : reply_text (replies.Reply.Bytes c.args.bytes.now) ≡ codes "bytes " ++ digits = bytes_text c.args.bytes.now (grind arith) in
    on_err_weaker c.print_digits.result (λ front. rw (text, ← append-nil digits) (AppendsFront-between _ _ (codes "bytes ") [] c.in_ok-write_whole.ensures.ok front)) c.print_digits.ensures.err
