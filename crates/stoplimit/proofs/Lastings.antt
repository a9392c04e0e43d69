-- Rows that last over one call after another.
use Rattle.std.proofs.Common.{◌∙◌}
use Rattle.tables.specs.declared.row.Row.{Row}
use Rattle.tables.specs.Row.{Lasting}

pub lasting_on : {S : Type 0} {p q r : Row S} → Lasting p q → Lasting q r → Lasting p r
lasting_on a b = record { as_long = b.as_long ∙ a.as_long; named = b.named ∙ a.named }
