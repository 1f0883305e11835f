-- Why there is no fluid service, as why there is no report.
use Rattle.fluid_reference.specs.declared.fault.FluidFault.{FluidFault}
use Rattle.fluid_reference.specs.declared.fault.FluidFault.TheVariants as fluid
use Rattle.lag_report.specs.declared.fault.ReportFault.{ReportFault}
use Rattle.lag_report.specs.declared.fault.ReportFault.TheVariants.{TooLong, NoMemory}

abbrev pub fault_from : FluidFault → ReportFault
fault_from (fluid.TooLong slots tenants) = TooLong slots tenants
fault_from fluid.NoMemory = NoMemory
