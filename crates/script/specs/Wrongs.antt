-- What is wrong with a line of "with". Assumes nothing.
use Rattle.script.specs.declared.wrong.Wrong.{Wrong}
use Rattle.script.specs.declared.wrong.Wrong.TheVariants.{Word, New, Put, Open, With, Alone, NoMemory}

-- where its call is wrong: a call that is none is missed
abbrev pub behind_with : Wrong → Wrong
behind_with Word = With
behind_with New = New
behind_with Put = Put
behind_with Open = Open
behind_with With = With
behind_with Alone = Alone
behind_with NoMemory = NoMemory
