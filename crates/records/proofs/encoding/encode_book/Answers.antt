use Rattle.std.proofs.Common.{◌≡◌, [], length, sym, ◌∙◌, rules}
use Rattle.records.proofs.Books.{book_says}
use Rattle.records.proofs.Rows.{by_three, by_two}
use Rattle.records.proofs.encoding.encode_book.Goals as goal

pub returns : goal.returns
returns c =
    let rows : length c.args.marks ≡ 2 = search rules in
    let prices : length c.args.sale ≡ 3 = search rules in
    book_says c.args.marks c.args.sale _ _ c.sale_bytes.result c.book_bytes.result c.book_bytes.ensures (by_two c.args.marks [] rows) (by_three c.args.sale 0 prices ∙ sym c.sale_bytes.ensures)
