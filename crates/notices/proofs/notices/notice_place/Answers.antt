use Rattle.std.proofs.Common.{◌≡◌, ℕ, ◌-◌, length, Some, None, Ok, Err, Option, Result, sym, ap, ◌∙◌, subst, arith}
use Rattle.std.proofs.lemmas.Result.{err_from_is_err_and}
use Rattle.book.specs.Books.{Contents, holder, row_named}
use Rattle.book.specs.Data.{contents}
use Rattle.rules.specs.declared.fault.Cause.{Cause}
use Rattle.rules.specs.Verdict.{first_failed}
use Rattle.state.specs.Seeing.{record_of}
use Rattle.state.proofs.Checked.{refused_by, passed_by}
use Rattle.notices.specs.Noticing.{SellerAt, fault_checks, place_or}
use Rattle.notices.proofs.Noticed.{by_row, fits_in, stops_at_seller}
use Rattle.notices.proofs.notices.notice_place.Goals as goal

ok_at : (x y : ℕ) → x ≡ y → ◌≡◌ {A = Result ℕ Cause} (Ok x) (Ok y)
ok_at x y e = cc

pub returns-in_err-check_notice-clause-place_or_cause : goal.returns-in_err-check_notice-clause-place_or_cause
returns-in_err-check_notice-clause-place_or_cause c =
    let b : Contents = contents c.args.state.now.book in
    let row : ℕ = row_named b c.args.asked.member c.args.asked.number in
    let place : ℕ = c.in_ok-place.place in
    let seller : SellerAt b c.args.asked.member c.args.asked.number (Some place) = subst (SellerAt b c.args.asked.member c.args.asked.number) c.in_ok-place.ensures.ok_part c.seller_place.ensures in
    let same = by_row b c.holders.result.now c.assets.result.now c.args.state.now.lots row place c.args.state.now.session c.args.asked.speaker c.args.asked.asset c.args.asked.contracts c.holders.ensures.value c.assets.ensures.value seller.0 in
    let cause = refused_by _ c.in_err-check_notice.field-0.0 (sym c.check_notice.ensures ∙ c.in_err-check_notice.was) in
    let p = err_from_is_err_and c.from_residual-in_err-check_notice.result c.from_residual-in_err-check_notice.ensures.1 in
    (p.1 ∙ ap Err p.2)
    ∙ sym (ap (λ (x : Option Cause). place_or x row)
    (stops_at_seller b c.args.state.now.session (record_of c.args.state.now.lots row).notified c.args.asked.speaker c.args.asked.member c.args.asked.number c.args.asked.asset c.args.asked.contracts seller.3
    ∙ (sym same ∙ cause)))

pub returns : goal.returns
returns c =
    let b : Contents = contents c.args.state.now.book in
    let row : ℕ = row_named b c.args.asked.member c.args.asked.number in
    let place : ℕ = c.in_ok-place.place in
    let seller : SellerAt b c.args.asked.member c.args.asked.number (Some place) = subst (SellerAt b c.args.asked.member c.args.asked.number) c.in_ok-place.ensures.ok_part c.seller_place.ensures in
    let same = by_row b c.holders.result.now c.assets.result.now c.args.state.now.lots row place c.args.state.now.session c.args.asked.speaker c.args.asked.asset c.args.asked.contracts c.holders.ensures.value c.assets.ensures.value seller.0 in
    let none = sym same ∙ passed_by _ (sym c.check_notice.ensures ∙ c.in_ok-check_notice.was) in
    let at : row - 1 ≡ place = omega (arith, seller.0) in
    record {
      place_or_cause = sym (ap (λ (x : Option Cause). place_or x row)
          (stops_at_seller b c.args.state.now.session (record_of c.args.state.now.lots row).notified c.args.asked.speaker c.args.asked.member c.args.asked.number c.args.asked.asset c.args.asked.contracts seller.3 ∙ none)
          ∙ ok_at (row - 1) place at);
      fits = fits_in c.args.state.now.book c.args.state.now.lots place c.args.state.now.session c.args.asked.speaker c.args.asked.asset c.args.asked.contracts seller.1 seller.2
          (subst (λ (r : ℕ). first_failed (fault_checks c.args.state.now.session c.args.asked.speaker (holder b r) (length b.assets) (record_of c.args.state.now.lots r).notified c.args.asked.asset c.args.asked.contracts) ≡ None) seller.0 none);
    }
