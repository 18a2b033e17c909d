-- Nets stay as pairing made them, whatever is taken, settled or returned.
use Rattle.std.proofs.Common.{◌≡◌, ℕ, cond, eqb, List, map, sym, refl, ap, ◌∙◌}
use lib.IntN.{sub_ℕ}
use Rattle.book.specs.Books.{Contents, value}
use Rattle.pairing.specs.declared.line.Line.{Line}
use Rattle.pairing.specs.Lines.{buyer_agent, seller_agent, value_bought, value_sold, net}
use Rattle.rules.proofs.Kept.{anew}
use Rattle.rules.proofs.Totals.{map_kept}

bought_anew : (b : Contents) (ls : List Line) (k : ℕ) → value_bought b (λ l. l.contracts) (map anew ls) k ≡ value_bought b (λ l. l.contracts) ls k
bought_anew b ls k = map_kept (λ l. cond (eqb (buyer_agent b l) k) (value b l.asset l.contracts) 0) anew ls (λ _. refl)

sold_anew : (b : Contents) (ls : List Line) (k : ℕ) → value_sold b (λ l. l.contracts) (map anew ls) k ≡ value_sold b (λ l. l.contracts) ls k
sold_anew b ls k = map_kept (λ l. cond (eqb (seller_agent b l) k) (value b l.asset l.contracts) 0) anew ls (λ _. refl)

net_anew : (b : Contents) (ls : List Line) (k : ℕ) → net b (map anew ls) k ≡ net b ls k
net_anew b ls k = let p = sold_anew b ls k in let q = bought_anew b ls k in λ i. sub_ℕ (p i) (q i)

pub kept_nets : (b : Contents) (ls ks : List Line) (agent : ℕ) → map anew ls ≡ map anew ks → net b ls agent ≡ net b ks agent
kept_nets b ls ks agent same = sym (net_anew b ls agent) ∙ (ap (λ (xs : List Line). net b xs agent) same ∙ net_anew b ks agent)
