use Rattle.std.proofs.Common.{◌++◌, take, vec_items, ap, ◌∙◌}
use Rattle.std.specs.List.{flat_map}
use Rattle.text.specs.Pages.{most_bytes, written}
use Rattle.book.specs.Format.{terms_line, asset_line, holder_line}
use Rattle.book.proofs.PageOfBook.{in_turn}
use Rattle.book.proofs.book.Book.page.Goals as goal

pub returns : goal.returns
returns c =
    let b = c.args.self.now in
    record {
      text_of_the_book = in_turn most_bytes (written c.new-page.result) (written c.push_row.new.self) (written c.push_to.new.page) (written c.push_rows.new.page) (written c.push_rows-2.new.page)
          (terms_line b.terms) (flat_map asset_line (vec_items b.assets)) (flat_map holder_line (vec_items b.holders))
          c.new-page.ensures.empty c.push_row.ensures.line_is_appended c.push_to.ensures.line_is_appended
          (c.push_rows.ensures.lines_are_appended ∙ ap (λ xs. take most_bytes (written c.push_to.new.page ++ flat_map asset_line xs)) c.as_slice.ensures.value)
          (c.push_rows-2.ensures.lines_are_appended ∙ ap (λ xs. take most_bytes (written c.push_rows.new.page ++ flat_map holder_line xs)) c.as_slice-2.ensures.value);
    }
