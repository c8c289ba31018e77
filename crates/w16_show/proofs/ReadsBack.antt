-- What is plain reads back.
use Rattle.std.proofs.Common.{append-nil, ◌≡◌, ◌≤◌, [], Some, false, option_map, option_and_then, refl, sym, ap, ◌∙◌, suc}
use Rattle.json.specs.{Tree.json_tokens, Lex.tokens}
use Rattle.json.proofs.{Printed.Decimals.IsNumber-decimal, Printed.Tokens.tokens-print, Printed.Trees.ArePrintable-json_tokens, Printed.Trees.value-json_tokens}
use Rattle.serde_json.specs.Data.{unsigned, negative, float, Data, null, boolean, number, string, array, object, Items, no_items, item, Members, no_members, member, put, depth, items_depth, members_depth}
use Rattle.serde_json.specs.Read.{read, max_depth, of_json, of_items, of_members}
use Rattle.serde_json.specs.Written.{outline, items_outline, members_outline, compact_text, has_float, items_have_float, members_have_float}
use Rattle.serde_json.proofs.{Numbers.number_of-decimal, Texts.print-outline}
use Rattle.w16_show.specs.Plain.{IsPlain, ArePlain, HasPlain, put_all}
use Rattle.json.specs.Json as json
use Rattle.json.specs.Tree as tree

mutual
  pub plain : (d : Data) → IsPlain d → tree.HasNumbers (outline d) × (tree.depth (outline d) ≡ depth d) × (of_json (outline d) ≡ Some d) × (has_float d ≡ false)
  plain null p = (tt, refl, refl, refl)
  plain (boolean b) p = (tt, refl, refl, refl)
  plain (number (unsigned n)) p = (IsNumber-decimal n p, refl, ap (option_map number) (number_of-decimal n p), refl)
  plain (number (negative z)) p = absurd p
  plain (number (float x)) p = absurd p
  plain (string s) p = (tt, refl, refl, refl)
  plain (array ds) p = let h = items ds p in (h.0, ap suc h.1, ap (option_map array) h.2, h.3)
  plain (object ms) p = let h = members ms p.1 in (h.0, ap suc h.1, ap (option_map object) (h.2 no_members ∙ ap Some p.0), h.3)

  items : (ds : Items) → ArePlain ds → tree.ItemsHaveNumbers (items_outline ds) × (tree.items_depth (items_outline ds) ≡ items_depth ds) × (of_items (items_outline ds) ≡ Some ds) × (items_have_float ds ≡ false)
  items no_items p = (tt, refl, refl, refl)
  items (item d ds) p = let h = plain d p.0 in let k = items ds p.1 in ((h.0, k.0), rw (h.1, k.1) refl, rw (h.2, k.2) refl, rw h.3 k.3)

  members : (ms : Members) → HasPlain ms → tree.MembersHaveNumbers (members_outline ms) × (tree.members_depth (members_outline ms) ≡ members_depth ms)
      × ((found : Members) → of_members (members_outline ms) found ≡ Some (put_all ms found)) × (members_have_float ms ≡ false)
  members no_members p = (tt, refl, λ found. refl, refl)
  members (member k d ms) p = let h = plain d p.0 in let r = members ms p.1 in ((h.0, r.0), rw (h.1, r.1) refl, λ found. rw h.2 (r.2 (put k d found)), rw h.3 r.3)

-- the text of a value reads back
pub reads_back : (d : Data) → IsPlain d → depth d ≤ max_depth → read (compact_text d) ≡ Some d
reads_back d p shallow =
    let known = plain d p in
    ap (option_and_then of_json)
    (ap (option_and_then (λ p. json.if_last p.0 p.1))
    (ap (json.value max_depth) (ap tokens (sym (print-outline d)) ∙ tokens-print (json_tokens (outline d)) (ArePrintable-json_tokens (outline d) known.0) ∙ sym (append-nil _))
    ∙ value-json_tokens (outline d) max_depth [] (rw known.1 shallow)))
    ∙ known.2
