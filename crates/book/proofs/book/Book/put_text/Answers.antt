use Rattle.std.proofs.Common.{◌<◌, length, ◌∙◌, arith, false-eqb, rules}
use Rattle.book.specs.Data.{contents}
use Rattle.book.proofs.BookKept.{page_holds}
use Rattle.book.proofs.WriteWays.{write_put}
use Rattle.book.proofs.book.Book.put_text.Goals as goal

pub returns : goal.returns
returns c =
    let some : 0 < length (contents c.args.self.now).holders = omega (arith, c.args.self.now.holders.ok.0, false-eqb _ _ c.if-is_empty.ensures) in
    let p = write_put (contents c.args.self.now) c.args.out.now c.text.result.now c.put.new.out c.put.result c.map_err.result _ (λ e f m. search rules) some
    (c.text.ensures.value ∙ c.page-page.ensures.text_of_the_book ∙ page_holds c.args.self.now some) c.put.ensures.length_or_too_small c.put.ensures.later_bytes_stay c.map_err.ensures.cases in
    record { length_or_refusal = p.0; text_then_later_bytes = p.1 }
