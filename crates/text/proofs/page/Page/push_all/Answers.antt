use Rattle.std.proofs.Common.{◌++◌, take, ◌∙◌, ap, arith, IsOk, OnOk, Ok, Err, Result, length-take}
use Rattle.text.specs.Pages.{most_bytes, written}
use Rattle.text.proofs.Taken.{taken_room}
use Rattle.text.proofs.page.Page.push_all.Goals as goal

on_ok : {T E P : Type 0} (r : Result T E) → IsOk r → OnOk r P → P
on_ok (Ok x) i p = p
on_ok (Err e) i p = cc

pub returns : goal.returns
returns c =
    let start = written c.args.self.now in
    let bs = c.args.bytes.now in
    let room = c.remaining_capacity-room.result in
    let done = on_ok c.try_extend_from_slice-fits.result (c.try_extend_from_slice-fits.ensures.variant.1 (omega (arith, c.remaining_capacity-room.ensures, c.min.ensures, length-take c.min.result bs))) c.try_extend_from_slice-fits.ensures.ok in
    record { appended = done ∙ ap (λ k. start ++ take k bs) c.min.ensures ∙ taken_room most_bytes room start bs c.remaining_capacity-room.ensures }
