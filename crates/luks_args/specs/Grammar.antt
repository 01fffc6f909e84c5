-- The arguments of luksrd as `clap` reads them: one level of subcommands, each with options that have one argument and
-- with one input, and no rule between options.
use Rattle.std.specs.Prelude.{◌≡◌, ◌∷◌, ◌++◌, [], Bool, true, false, IfOk, List, Result, Some, codes}
use Rattle.clap.specs.Words.{App, Rule, Shape, Text, app_of, new_rule}
use Rattle.clap.specs.Simple.{new_shape}
use Rattle.clap.specs.declared.builder.Command.{Command}
use Rattle.clap.specs.declared.builder.Command.TheViews.{out-Command}

-- the option `--name`, which has one argument
abbrev pub option : Text → Bool → Rule
option name is_required = record (new_rule name) { long = Some name; required = is_required }

-- a required option
abbrev pub required : Text → Rule
required name = option name true

-- an option that may be left out
abbrev pub optional : Text → Rule
optional name = option name false

-- the input, which belongs to no option and is required
abbrev pub input : Rule
input = record (new_rule (codes "input")) { required = true }

-- a command with these options and its input
abbrev pub command : Text → List Rule → Shape
command name options = record (new_shape name) { rules = options ++ input ∷ [] }

-- `--header FILE`, for a detached header
abbrev pub header_option : Rule
header_option = optional (codes "header")

-- `NAME [--header FILE] IMAGE`
unfoldable pub header_command : Text → Shape
header_command name = command name (header_option ∷ [])

-- `NAME --key-file FILE [--key-slot N] [--max-iterations N] [--header FILE] IMAGE`
unfoldable pub volume_command : Text → Shape
volume_command name = command name (required (codes "key-file") ∷ optional (codes "key-slot")
    ∷ optional (codes "max-iterations") ∷ header_option ∷ [])

-- `afSplit --hash HASH --stripes N --random FILE KEY` or `afMerge --hash HASH --stripes N --key-bytes N STRIPES`, by
-- the name and the last option
unfoldable pub stripe_command : Text → Text → Shape
stripe_command name last = command name (required (codes "hash") ∷ required (codes "stripes") ∷ required last ∷ [])

-- luksrd with no command yet: the arguments are those after the program's name, and `clap` adds no help flag and no
-- help subcommand
abbrev pub program : Shape
program = record (new_shape (codes "luksrd")) {
  no_binary_name = true;
  disable_help_flag = true;
  disable_help_subcommand = true;
}

-- the commands on volumes and on stripes
abbrev pub other_shapes : List Shape
other_shapes = volume_command (codes "testPassphrase") ∷ volume_command (codes "luksCat")
    ∷ stripe_command (codes "afSplit") (codes "random") ∷ stripe_command (codes "afMerge") (codes "key-bytes") ∷ []

-- the commands
abbrev pub luksrd_shapes : List Shape
luksrd_shapes = header_command (codes "isLuks") ∷ header_command (codes "luksUUID")
    ∷ header_command (codes "luksDump") ∷ header_command (codes "luksCheck") ∷ other_shapes

-- luksrd with its commands
unfoldable pub luksrd : App
luksrd = record { top = record program { is_leaf = false }; subs = luksrd_shapes }

-- a command on its own
abbrev pub alone : Shape → App
alone shape = record { top = shape; subs = [] }

-- `clap` reads the command as this one, and no argument of it is global
pub record IsReadAs (command : Command) (as_read : App) : Type 0 where
  pub app : app_of command ≡ as_read
  pub local : (out-Command command).has_globals ≡ false

-- a command being built is read as this one, if memory did not run out
abbrev pub BuildsApp : {E : Type 0} → Result Command E → App → Type 0
BuildsApp making as_read = IfOk making (λ command. IsReadAs command as_read)

-- `clap` reads the commands as these shapes, one by one
unfoldable pub AreReadAs : List Command → List Shape → Type 0
AreReadAs [] [] = Unit
AreReadAs (command ∷ commands) (shape ∷ shapes) = IsReadAs command (alone shape) × AreReadAs commands shapes
AreReadAs _ _ = ⊥
