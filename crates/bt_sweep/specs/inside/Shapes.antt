-- The shapes that have a line for each hit.
use Rattle.bt_sweep.specs.declared.output.shape.HitShape.{HitShape}
use Rattle.bt_sweep.specs.declared.output.shape.HitShape.TheVariants.{Cut as EachCut, OrigA as EachOrigA, CutAndB as EachCutAndB, OrigBoth as EachOrigBoth, Overlap as EachOverlap}
use Rattle.bt_sweep.specs.declared.output.shape.Shape.{Shape}
use Rattle.bt_sweep.specs.declared.output.shape.Shape.TheVariants.{Cut, OrigA, CutAndB, OrigBoth, Overlap}

-- such a shape
abbrev pub shape_with : HitShape → Shape
shape_with EachCut = Cut
shape_with EachOrigA = OrigA
shape_with EachCutAndB = CutAndB
shape_with EachOrigBoth = OrigBoth
shape_with EachOverlap = Overlap
