-- What the functions that write the answer promise each other. Nothing here is cited by a public promise.
-- Assumes nothing.
use Rattle.std.specs.Prelude.{List, ◌++◌, ℕ}
use Rattle.std.specs.List.{flat_map}
use Rattle.text.specs.Text.{decimal}
use Rattle.show.specs.declared.Item.{Item}

-- the words and numbers of a line, one after the other
abbrev pub items : List Item → List ℕ
items = flat_map (λ i. i.0.now ++ decimal i.1)
