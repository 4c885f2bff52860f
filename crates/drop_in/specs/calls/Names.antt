-- Which names of inputs are those of streams, whatever the files are.
use Rattle.std.specs.Prelude.{Bool, [], ◌∷◌, bytes_eq, codes}
use Rattle.std.specs.List.{list_any}
use Rattle.bt_tool.specs.model.Table.{Word}

-- whether a name leads to standard input
unfoldable pub is_of_standard_input : Word → Bool
is_of_standard_input name =
    list_any (bytes_eq name) (codes "-" ∷ codes "stdin" ∷ codes "/dev/stdin" ∷ codes "/dev/fd/0" ∷ [])
