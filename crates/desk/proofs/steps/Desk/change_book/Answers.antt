use Rattle.std.proofs.Common.{Err, Option, rules, refl, sym, ap, ◌∙◌, subst}
use Rattle.std.proofs.lemmas.Result.{err_from_is_err_and}
use Rattle.std.specs.Fn.{FnOnceReturnsAtMut}
use Rattle.desk.specs.declared.book.OpenBook.{OpenBook}
use Rattle.desk.specs.Means.{BookHolds, nothing_said}
use Rattle.desk.specs.Steps.{change}
use Rattle.desk.proofs.BookSteps.{said_of, book_came, change_came, rests_same}
use Rattle.desk.proofs.steps.Desk.change_book.Goals as goal

pub returns-in_err-does : goal.returns-in_err-does
returns-in_err-does g c refusal becomes changes =
    let p = err_from_is_err_and c.from_residual-in_err-does.result c.from_residual-in_err-does.ensures.1 in
    let done : FnOnceReturnsAtMut g.F.FnOnce c.args.does c.in-Some.open c.does.result c.does.new.arg2 = search rules in
    record {
      came = λ s means. book_came s c.args.self.now means (change refusal becomes) _ _ _ c.in_ok-month.ensures
          (change_came _ refusal becomes c.in_ok-month.field-0 _ _ _ _ _ changes done (ap said_of c.in_err-does.was ∙ sym (ap nothing_said p.1 ∙ ap Err p.2)) (subst (λ (o : Option OpenBook). BookHolds o s.book) c.in-Some.is means.book));
      rests = rests_same c.args.self.now.accounts;
      slots = refl;
    }

pub returns : goal.returns
returns g c refusal becomes changes =
    let done : FnOnceReturnsAtMut g.F.FnOnce c.args.does c.in-Some.open c.does.result c.does.new.arg2 = search rules in
    record {
      came = λ s means. book_came s c.args.self.now means (change refusal becomes) _ _ _ c.in_ok-month.ensures
          (change_came _ refusal becomes c.in_ok-month.field-0 _ _ _ _ _ changes done (ap said_of c.in_ok-does.was) (subst (λ (o : Option OpenBook). BookHolds o s.book) c.in-Some.is means.book));
      rests = rests_same c.args.self.now.accounts;
      slots = refl;
    }
