use Rattle.records.proofs.Books.{book_decoded, sale_there}
use Rattle.records.proofs.decoding.book.Goals as goal

pub returns : goal.returns
returns c =
    let working = rw c.in_ok-working.ensures.ok_part at c.split_first_chunk.ensures.cases in
    let weekend = rw c.in_ok-weekend.ensures.ok_part at c.split_first_chunk-2.ensures.cases in
    let prices = c.in_ok-weekend.prices.now in
    let sale = sale_there prices _ (rw c.in_ok-sale.ensures.ok_part at c.sale_prices.ensures) in
    book_decoded c.args.payload.now c.in_ok-working.after.now prices _ _ _ working.0 working.1 working.2 weekend.0 weekend.1 weekend.2 sale
