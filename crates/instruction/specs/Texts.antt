-- What is printed of a word that is no operation.
use Rattle.std.specs.Prelude.{ℕ, List, codes}

abbrev pub no_operation_text : List ℕ
no_operation_text = codes "no operation"
