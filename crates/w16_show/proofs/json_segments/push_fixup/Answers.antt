use Rattle.std.proofs.Common.{refl, codes, map, string_bytes, ◌≡◌, ℕ, List, ◌++◌, ◌∙◌}
use Rattle.std.proofs.lemmas.List.{append_assoc}
use Rattle.json.specs.Print.{escape_byte}
use Rattle.serde_json.specs.{Data.boolean, Data.string, Written.compact_text}
use Rattle.w16_show.specs.{Words.part_text, Json.n, Json.list, Json.target_json}
use Rattle.w16_show.proofs.Sending.{on-pushed}
use Rattle.w16_show.proofs.json_segments.push_fixup.Goals as goal

pub returns : goal.returns
unfolding escape_byte
returns c =
    let start : string_bytes c.push_str.new.self ≡ string_bytes c.args.out.now ++ codes "{\"add\":" = c.in_ok-push_str.ensures.bytes in
    let part : string_bytes c.push_str-2.new.self ≡ string_bytes c.push_bool.new.out ++ codes ",\"part\":" = c.in_ok-push_str-2.ensures.bytes in
    let third : string_bytes c.push_str-3.new.self ≡ string_bytes c.push_part.new.out ++ codes ",\"sites\":" = c.in_ok-push_str-3.ensures.bytes in
    let last : string_bytes c.push_str-4.new.self ≡ string_bytes c.push_offsets.new.out ++ codes ",\"target\":" = c.in_ok-push_str-4.ensures.bytes in
    let sites = c.in_ok-push_offsets.ensures in
    let target = c.in_ok-push_target.ensures in
    on-pushed c.push_str-5.result _ _ (codes "}") c.push_str-5.ensures.bytes (λ end. (
      end ∙ rw (target.0, last, sites.0, third, c.in_ok-push_part.ensures.0, part, c.in_ok-push_bool.ensures.0, start)
          (simp append_assoc),
      (refl, (tt, (tt, (sites.1, (target.1, tt))))),
    ))
