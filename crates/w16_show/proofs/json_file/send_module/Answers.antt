use Rattle.std.proofs.Common.{refl}
use Rattle.json.specs.Print.{escape_byte}
use Rattle.w16_show.specs.Json.{module_json}
use Rattle.w16_show.proofs.Sending.{members_in, object-sent, on-ok}
use Rattle.w16_show.proofs.json_file.send_module.Goals as goal

pub returns : goal.returns
unfolding module_json escape_byte
returns g c = λ is.
    let header = rw c.in_ok-header_value.ensures.0 at (c.in_ok-send_value.ensures (rw c.in_ok-header_value.ensures.0 c.in_ok-header_value.ensures.1)) in
    on-ok c.write_all-8.result c.write_all-8.ensures.bytes (object-sent (members_in (module_json c.args.file.now c.args.tables.now)) _ _ _ refl (
      _,
      _,
      c.in_ok-write_all.ensures.bytes,
      c.in_ok-send_entries.ensures,
      (
        _,
        _,
        c.in_ok-write_all-2.ensures.bytes,
        (header.0, header.1),
        (
          _,
          _,
          c.in_ok-write_all-3.ensures.bytes,
          c.in_ok-send_imports.ensures.value is,
          (
            _,
            _,
            c.in_ok-write_all-4.ensures.bytes,
            c.in_ok-send_names.ensures,
            (
              _,
              _,
              c.in_ok-write_all-5.ensures.bytes,
              c.in_ok-send_references.ensures,
              (
                _,
                _,
                c.in_ok-write_all-6.ensures.bytes,
                c.in_ok-send_resources.ensures,
                (_, _, c.in_ok-write_all-7.ensures.bytes, c.in_ok-send_segments.ensures.value (rw c.in_ok-send_imports.ensures.same is), (refl, refl)),
              ),
            ),
          ),
        ),
      ),
    ))
