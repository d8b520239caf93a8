-- What locations and sources in code mean.
use Rattle.path_facts.specs.Facts.{Location, Source}
use Rattle.path_facts.specs.Facts.Location.{Register, StackWord}
use Rattle.path_facts.specs.Facts.Source.{Nothing, Constant, Sum, Copy, IfMarked}
use Rattle.point_steps.specs.declared.source.Location.{Location as LocationValue}
use Rattle.point_steps.specs.declared.source.Location.TheVariants as place
use Rattle.point_steps.specs.declared.source.Source.{Source as SourceValue}
use Rattle.point_steps.specs.declared.source.Source.TheVariants as coded

abbrev pub location_meant : LocationValue → Location
location_meant (place.Register r) = Register r
location_meant (place.StackWord k) = StackWord k

abbrev pub source_meant : SourceValue → Source
source_meant coded.Nothing = Nothing
source_meant (coded.Constant c) = Constant c
source_meant (coded.Sum r by) = Sum r by
source_meant (coded.Copy location) = Copy (location_meant location)
source_meant (coded.IfMarked k) = IfMarked k
