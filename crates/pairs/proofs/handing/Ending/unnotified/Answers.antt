use Rattle.std.proofs.Common.{rules, ◌≡◌, ℕ, ◌-◌, length, take, ◌∙◌, arith}
use Rattle.std.specs.List.{fold}
use Rattle.pairs.specs.Records.{in_lots}
use Rattle.pairs.proofs.HandedLots.{less_lots, rest_fits}
use Rattle.pairs.proofs.handing.Ending.unnotified.Goals as goal

pub returns : goal.returns
returns c =
    let lots = c.args.r.now.lots in
    let long : length lots ≡ 4 = search rules in
    let e : c.fold.result ≡ fold (λ (left lot : ℕ). left - lot) c.args.volume (take c.args.self.assets lots) = search rules in
    let left : c.fold.result ≡ c.args.volume - in_lots c.args.self.assets c.args.r.now = e ∙ less_lots c.args.self.assets 0 c.args.volume lots (omega arith) in
    record {
      what_no_lot_has = left;
      each_lot_has_room = λ asset h some. rest_fits c.args.self.assets asset c.args.volume c.fold.result c.args.r.now h left some;
    }
