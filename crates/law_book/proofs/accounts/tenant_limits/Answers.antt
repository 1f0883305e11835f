use Rattle.fq_laws.proofs.Time.Open.{open_requests_low}
use Rattle.fq_laws.proofs.Charge.Limits.{virtual_charge_low, net_charge_low}
use Rattle.law_book.proofs.accounts.tenant_limits.Goals as goal

pub returns : goal.returns
returns c = λ C P t lim l. record { open_limit = open_requests_low C P t lim l; virtual_limit = virtual_charge_low C P t lim l; net_limit = net_charge_low C P t lim l }
