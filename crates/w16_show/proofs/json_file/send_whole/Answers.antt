use Rattle.std.proofs.Common.{◌≡◌, refl, rules}
use Rattle.json.specs.Print.{escape_byte}
use Rattle.serde_json.specs.{Data.boolean, View.view, declared.value.Value.the_lemmas}
use Rattle.w16_show.specs.Json.{whole_json}
use Rattle.w16_show.proofs.Sending.{members_in, object-sent, on-ok}
use Rattle.serde_json.specs.declared.value.Value as declared
use Rattle.w16_show.proofs.json_file.send_whole.Goals as goal

pub returns : goal.returns
unfolding escape_byte
returns g c = λ is.
    let name = rw c.in_ok-word_value.ensures.0 at (c.in_ok-send_value.ensures (rw c.in_ok-word_value.ensures.0 c.in_ok-word_value.ensures.1)) in
    let is_bool : view (declared.Bool c.args.sound) ≡ boolean c.args.sound = search (rules, the_lemmas) in
    let sound = rw is_bool at (c.in_ok-send_value-2.ensures (rw is_bool tt)) in
    on-ok c.write_all-6.result c.write_all-6.ensures.bytes (object-sent (members_in (whole_json c.args.name.now c.args.file.now c.args.tables.now c.args.sound)) _ _ _ refl (
      _,
      _,
      c.in_ok-write_all.ensures.bytes,
      (c.in_ok-write_all-2.ensures.bytes, tt),
      (
        _,
        _,
        c.in_ok-write_all-3.ensures.bytes,
        (name.0, name.1),
        (_, _, c.in_ok-write_all-4.ensures.bytes, c.in_ok-send_module.ensures is, (_, _, c.in_ok-write_all-5.ensures.bytes, (sound.0, sound.1), (refl, refl))),
      ),
    ))
