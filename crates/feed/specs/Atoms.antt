-- The reach of each class's atoms.
use Rattle.std.specs.Prelude.{◌==◌, Option, Some, None, if◌then◌else◌}
use Rattle.key_class.specs.declared.sides.Rel.{Rel}
use Rattle.key_class.specs.declared.sides.Rel.TheVariants.{Overlaps, Within, Holds, Same}
use Rattle.interval_class.specs.declared.interval.Interval.{Interval}
use Rattle.interval_class.specs.declared.atom.Atom as interval
use Rattle.box_class.specs.declared.boxes.BoxKey.{BoxKey}
use Rattle.box_class.specs.declared.atom.Atom as box
use Rattle.set_class.specs.declared.elements.Elements.{Elements}
use Rattle.set_class.specs.declared.atom.Atom as set

-- an interval has a point, so whatever its relation to an operand is, it overlaps the operand
abbrev pub interval_reach : interval.Atom → Option Interval
interval_reach a = Some a.operand

abbrev pub overlapping_interval : Interval → interval.Atom
overlapping_interval key = record { rel = Overlaps; operand = key }

abbrev pub same_interval : Interval → interval.Atom
same_interval key = record { rel = Same; operand = key }

-- the same of boxes
abbrev pub box_reach : box.Atom → Option BoxKey
box_reach a = Some a.operand

abbrev pub overlapping_box : BoxKey → box.Atom
overlapping_box key = record { rel = Overlaps; operand = key }

abbrev pub same_box : BoxKey → box.Atom
same_box key = record { rel = Same; operand = key }

-- the set, if it has an element
abbrev pub if_some : Elements → Option Elements
if_some set = if set.mask == 0 then None else Some set

-- what is within a set may be empty, and any set holds the empty one, so neither has to overlap anything
abbrev pub reach_by : Rel → Elements → Option Elements
reach_by Overlaps operand = Some operand
reach_by Within operand = None
reach_by Holds operand = if_some operand
reach_by Same operand = if_some operand

abbrev pub set_reach : set.Atom → Option Elements
set_reach a = reach_by a.rel a.operand

abbrev pub overlapping_set : Elements → set.Atom
overlapping_set key = record { rel = Overlaps; operand = key }

abbrev pub same_set : Elements → set.Atom
same_set key = record { rel = Same; operand = key }
