use Rattle.std.proofs.Common.{◌≡◌, ℕ, ◌+◌, ◌<◌, List, length, refl, ◌∙◌, arith, rules}
use Rattle.std.proofs.lemmas.List.{length_push}
use Rattle.register.specs.Registers.{meaning}
use Rattle.register.specs.Rules.{Meaning}
use Rattle.rules.specs.declared.side.Side.TheVariants.{Cash}
use Rattle.rules.specs.Postings.{Posting, pays}
use Rattle.rules.specs.Tally.{cash_asset}
use Rattle.delivery.specs.Handing.{paid_agents}
use Rattle.delivery.proofs.Outcomes.{ok_err}
use Rattle.delivery.proofs.PaidAgents.{Starts, cash_to, walk_turn, paying_none, paying_here, paying_more}
use Rattle.delivery.proofs.paying.pay_agents.Goals as goal

pub loop-agent-init : goal.loop-agent-init
loop-agent-init g c = (paying_none c.args.amounts.now (meaning g.C.Balances c.args.cash.now), refl)

pub returns-in_err-pay_agent-clause-pays_where_no_move_is_refused : goal.returns-in_err-pay_agent-clause-pays_where_no_move_is_refused
returns-in_err-pay_agent-clause-pays_where_no_move_is_refused g c = λ can.
    let amounts : List ℕ = c.args.amounts.now in
    let k : ℕ = length c.loop-agent.yielded + 1 in
    let here : List Posting = pays Cash c.in-Some.agent cash_asset c.in-Some.amount.now in
    let long : length amounts ≡ 65 = search rules in
    let start : Starts amounts c.into_iter-agent-iterator.result = (cc, cc, cc) in
    let turn = walk_turn amounts c.into_iter-agent-iterator.result c.loop-agent.agent-iterator c.next.new.self c.loop-agent.yielded c.next.result (c.in-Some.agent, c.in-Some.amount) start c.loop-agent.yielded_by c.in-Some.is c.next.ensures.steps in
    let n = paying_here Cash (cash_to amounts) 65 k (meaning g.C.Balances c.args.cash.now) (meaning g.C.Balances c.loop-agent.cash) (paid_agents amounts) here (omega (arith, long, turn.0)) turn.1 (c.loop-agent.invariant.0 can) in
    absurd (ok_err (c.pay_agent.ensures.pays n).0 c.in_err-pay_agent.was)

pub loop-agent-preserved : goal.loop-agent-preserved
loop-agent-preserved g c =
    let amounts : List ℕ = c.args.amounts.now in
    let m₀ : Meaning = meaning g.C.Balances c.args.cash.now in
    let m : Meaning = meaning g.C.Balances c.loop-agent.cash in
    let m' : Meaning = meaning g.C.Balances c.pay_agent.new.cash in
    let k : ℕ = length c.loop-agent.yielded + 1 in
    let here : List Posting = pays Cash c.in-Some.agent cash_asset c.in-Some.amount.now in
    let long : length amounts ≡ 65 = search rules in
    let start : Starts amounts c.into_iter-agent-iterator.result = (cc, cc, cc) in
    let turn = walk_turn amounts c.into_iter-agent-iterator.result c.loop-agent.agent-iterator c.next.new.self c.loop-agent.yielded c.next.result (c.in-Some.agent, c.in-Some.amount) start c.loop-agent.yielded_by c.in-Some.is c.next.ensures.steps in
    let inside : k < 65 = omega (arith, long, turn.0) in (
      (λ can.
          let n = paying_here Cash (cash_to amounts) 65 k m₀ m (paid_agents amounts) here inside turn.1 (c.loop-agent.invariant.0 can) in
          let more = paying_more Cash (cash_to amounts) 65 k m₀ m m' (paid_agents amounts) here inside turn.1 (c.pay_agent.ensures.pays n).1 (c.loop-agent.invariant.0 can) in
          rw (length_push c.loop-agent.yielded (c.in-Some.agent, c.in-Some.amount)) more),
      c.pay_agent.ensures.memory_is_kept ∙ c.loop-agent.invariant.1,
    )
