use Rattle.std.proofs.Common.{◌≡◌, ◌+◌, ◌<◌, ◌≤◌, List, length, get_or, set, take, sym, ap, ◌∙◌, subst, arith}
use Rattle.register.specs.Registers.{meaning}
use Rattle.rules.specs.Tally.{Opening}
use Rattle.rules.specs.Histories as histories
use Rattle.rules.specs.Histories.{Seen, Stands}
use Rattle.rules.proofs.TheLaw.{the_law_holds}
use Rattle.state.specs.Seeing.{seen}
use Rattle.expiry.specs.declared.expiry.runs.Entry.{Entry}
use Rattle.expiry.specs.Running.{entered}
use Rattle.expiry.proofs.Entered.{no_entry, entered_next, entered_all, calls_kept}
use Rattle.expiry.proofs.expiry.Expiry.run_all.Goals as goal

pub loop-entry-preserved : goal.loop-entry-preserved
loop-entry-preserved g c =
    let es : List Entry = c.loop-entry.entries in
    let i = c.loop-entry.entry-index in
    let lt : i < length es = omega arith in
    let e : Entry = record { call = (get_or es i no_entry).call; answer = c.apply-answer.result } in
    let told : c.enter.new.self ≡ e = c.enter.ensures.entered_beside_its_call in
    let then : Seen = seen c.apply-answer.new.self.state c.apply-answer.new.lines (meaning g.S.Balances c.apply-answer.new.securities) (meaning g.C.Balances c.apply-answer.new.cash) in
    let inv = c.loop-entry.invariant in (
      (λ o h st. subst (λ (x : Entry). Stands o (entered (take (i + 1) (set es i x)) h) then) (sym told)
          (subst (λ (x : List histories.Entry). Stands o x then) (sym (entered_next es i e h lt))
          (c.apply-answer.ensures.goes_on_by_the_rules o (entered (take i es) h) (inv.0 o h st)))),
      calls_kept es i c.enter.new.self (ap (λ (x : Entry). x.call) told) ∙ inv.1,
      c.apply-answer.ensures.memory_is_kept.0 ∙ inv.2,
      c.apply-answer.ensures.memory_is_kept.1 ∙ inv.3,
    )

pub returns-clause-law_over_the_run : goal.returns-clause-law_over_the_run
returns-clause-law_over_the_run g c =
    let es : List Entry = c.loop-entry.entries in
    let past : length c.loop-entry.entries ≤ c.loop-entry.entry-index = omega arith in
    let then : Seen = seen c.loop-entry.self.state c.loop-entry.lines (meaning g.S.Balances c.loop-entry.securities) (meaning g.C.Balances c.loop-entry.cash) in
    let before : Seen = seen c.args.self.now.state c.args.lines.now (meaning g.S.Balances c.args.securities.now) (meaning g.C.Balances c.args.cash.now) in
    let stands : (o : Opening) (h : List histories.Entry) → Stands o h before → Stands o (entered es h) then =
    λ o h st. subst (λ (x : List histories.Entry). Stands o x then) (entered_all es c.loop-entry.entry-index h past) (c.loop-entry.invariant.0 o h st) in
    λ o h st. (stands o h st, the_law_holds o (entered es h) then (stands o h st))
