-- Each command as data: the one place in which definitions tell commands apart.
use Rattle.std.specs.Prelude.{ℕ, List, [], None}
use Rattle.annbuild_words.specs.Asked.{Command}
use Rattle.command_options.specs.declared.settings.Settings.{Settings}
use Rattle.command_options.specs.declared.verb.Verb.{Verb}
use Rattle.command_options.specs.declared.verb.Verb.TheVariants as verbs
use Rattle.command_shapes.specs.Doing.{Doing}
use Rattle.command_shapes.specs.Writing.{writing}
use Rattle.annbuild_commands.specs.Building.{building}
use Rattle.annbuild_commands.specs.Querying.{querying}
use Rattle.annbuild_commands.specs.Checking.{checking}
use Rattle.annbuild_commands.specs.Making.{making}
use Rattle.annbuild_commands.specs.Trying.{trying}
use Rattle.annbuild_commands.specs.Living.{living}

-- a command as data; one that the program doesn't have does nothing
abbrev pub doing_by : Verb → (first second third fourth : List ℕ) → Settings → Doing
doing_by verbs.Build base index third fourth s = building base index s
doing_by verbs.Query base index queries fourth s = querying base index queries s
doing_by verbs.Check base index third fourth s = checking base index s
doing_by verbs.Make base second third fourth s = making base s
doing_by verbs.Trial first second third fourth s = trying s
doing_by verbs.Live base index queries fourth s = living base index queries s
doing_by verb first second third fourth s = writing None []

abbrev pub doing_of : Command → Doing
doing_of c = doing_by c.verb c.first c.second c.third c.fourth c.settings
