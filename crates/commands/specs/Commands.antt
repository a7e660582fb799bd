-- The command that a word names, with the number of words behind it. Assumes nothing.
use Rattle.std.specs.Prelude.{ℕ, cond, ◌&&◌, List, codes, ◌==◌, nat_le}
use Rattle.std.specs.Str.{bytes_eq}
use Rattle.commands.specs.declared.command.Command.{Command}
use Rattle.commands.specs.declared.command.Command.TheVariants.{Read, Write, Same, Lines, Page, Build, Usage}

abbrev pub command_of : List ℕ → ℕ → Command
command_of w n =
    cond (bytes_eq w (codes "read") && nat_le 1 n) Read
    (cond (bytes_eq w (codes "write") && n == 1) Write
    (cond (bytes_eq w (codes "same") && n == 2) Same
    (cond (bytes_eq w (codes "lines") && n == 0) Lines
    (cond (bytes_eq w (codes "page") && n == 1) Page (cond (bytes_eq w (codes "build") && n == 1) Build Usage)))))
