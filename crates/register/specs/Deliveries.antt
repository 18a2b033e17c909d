-- Delivery against payment in two registers.
use Rattle.std.specs.Prelude.{◌≡◌, ◌⊎◌, Some, None, Option}
use Rattle.register.specs.declared.fault.RegisterFault.{RegisterFault}
use Rattle.register.specs.declared.delivery.Delivery.{Delivery}
use Rattle.register.specs.declared.delivery.DeliveryFault.{DeliveryFault}
use Rattle.register.specs.declared.delivery.DeliveryFault.TheVariants.{Units, Money}
use Rattle.register.specs.Rules.{Meaning, unless_refused, transfer_refused, with_move}

abbrev pub units_refused : Meaning → Delivery → Option RegisterFault
units_refused securities d = transfer_refused securities d.seller d.buyer d.asset d.units

abbrev pub money_refused : Meaning → Delivery → Option RegisterFault
money_refused cash d = transfer_refused cash d.payer d.payee d.currency d.amount

-- The units' refusal comes before the money's.
abbrev pub first_refusal : Option RegisterFault → Option RegisterFault → Option DeliveryFault
first_refusal (Some fault) money = Some (Units fault)
first_refusal None (Some fault) = Some (Money fault)
first_refusal None None = None

-- The first reason to refuse a delivery.
abbrev pub delivery_refused : Meaning → Meaning → Delivery → Option DeliveryFault
delivery_refused securities cash d = first_refusal (units_refused securities d) (money_refused cash d)

abbrev pub units_moved : Meaning → Delivery → Meaning
units_moved securities d = with_move securities d.seller d.buyer d.asset d.units

abbrev pub money_moved : Meaning → Delivery → Meaning
money_moved cash d = with_move cash d.payer d.payee d.currency d.amount

abbrev pub securities_after : Meaning → Meaning → Delivery → Meaning
securities_after securities cash d = unless_refused (delivery_refused securities cash d) (units_moved securities d) securities

abbrev pub cash_after : Meaning → Meaning → Delivery → Meaning
cash_after securities cash d = unless_refused (delivery_refused securities cash d) (money_moved cash d) cash

-- Units and money moved, or neither did.
abbrev pub BothOrNeither : Delivery → Meaning → Meaning → Meaning → Meaning → Type 0
BothOrNeither d securities cash securities' cash' =
    ((securities' ≡ units_moved securities d) × (cash' ≡ money_moved cash d)) ⊎ ((securities' ≡ securities) × (cash' ≡ cash))
