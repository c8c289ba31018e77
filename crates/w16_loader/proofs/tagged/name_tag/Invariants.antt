-- The tag so far goes on to the tag of the whole name.
use Rattle.std.proofs.Common.{◌≡◌, ◌<◌, drop, fold}
use Rattle.std.specs.Str.{str_to_ascii_uppercase}
use Rattle.w16_loader.specs.Tags.{name_tag, tag_after}
use Rattle.w16_loader.proofs.tagged.name_tag.Given as goal

abbrev pub invariant-loop-byte : goal.invariant-loop-byte
invariant-loop-byte l = record {
  fits : l.tag < 4294967296;
  same : fold tag_after l.tag (str_to_ascii_uppercase (drop l.byte-index l.name)) ≡ name_tag l.name;
}
