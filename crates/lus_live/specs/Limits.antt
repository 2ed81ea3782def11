-- What a node may cost that is run, and why one isn't run.
use Rattle.std.specs.Prelude.{◌≡◌, ◌⊎◌, ◌^◌, ◌&&◌, ℕ, Bool, false, List, Option, Some, None, codes, nat_le}
use Rattle.clap.specs.Words.{App, Row, first_of}
use Rattle.lus_scripts.specs.declared.refusal.ScriptRefusal.{ScriptRefusal}
use Rattle.lus_scripts.specs.declared.refusal.ScriptRefusal.TheVariants as scripts
use Rattle.lus_devices.specs.Folders.{Known}
use Rattle.lus_asked.specs.Reading.{number_below}
use Rattle.lus_cli.specs.CodeSpecs.Codes.{ProgramCode, program_of}
use Rattle.lus_cli.specs.CommandLine.{Text, with_value}
use Rattle.lus_cli.specs.MachineSpecs.CostSpecs.Costs.{IsCost, most}
use Rattle.lus_cli.specs.MachineSpecs.CostSpecs.Places.{place_bytes}
use Rattle.lus_cli.specs.MachineSpecs.CostSpecs.declared.cost.Cost.{Cost}
use Rattle.lus_cli.specs.MachineSpecs.Formals.{node_named}
use Rattle.lus_cli.specs.Programs.{IsOfFile, LacksNode}
use Rattle.lus_live.specs.declared.limits.Limits.{Limits}

-- options `--most-orders N` and `--most-bytes N`
abbrev pub with_limits : App → App
with_limits app = with_value (codes "most-bytes") (with_value (codes "most-orders") app)

-- a number, or the greatest where none is given
abbrev pub limit_of : Option Text → Option ℕ
limit_of None = Some most
limit_of (Some text) = number_below (2 ^ 64) text

abbrev pub both : Option ℕ → Option ℕ → Option Limits
both (Some orders) (Some bytes) = Some (record { orders = orders; bytes = bytes })
both (Some orders) None = None
both None bytes = None

abbrev pub limits_of : List Row → Option Limits
limits_of m = both (limit_of (first_of (codes "most-orders") m)) (limit_of (first_of (codes "most-bytes") m))

-- a node costs no more
abbrev pub are_kept : Limits → Cost → Bool
are_kept limits cost = nat_le cost.orders limits.orders && nat_le cost.instance_bytes limits.bytes

-- the node of this name of a file's program costs more
pub record CostsMore (limits : Limits) (file : Known) (name : Text) : Type 0 where
  pub code : ProgramCode
  pub accepted : IsOfFile file (program_of code)
  pub node : ℕ
  pub named : node_named (program_of code) name ≡ Some node
  pub cost : Cost
  pub costs : IsCost code.emitted (place_bytes code.source.program) node cost
  pub more : are_kept limits cost ≡ false

-- why a node isn't run: the program lacks it, or it costs more than it may
abbrev pub RefusesNode : Limits → Known → Text → ScriptRefusal → Type 0
RefusesNode limits file name e = ((e ≡ scripts.Unknown) × LacksNode file name) ⊎ ((e ≡ scripts.Limit) × CostsMore limits file name)
