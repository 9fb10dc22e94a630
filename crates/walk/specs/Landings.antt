-- A landing as the layout's definitions have it.
use Rattle.tree.specs.Shows as shows
use Rattle.walk.specs.declared.landing.Landing.{Landing}

abbrev pub landing_of : Landing → shows.Landing
landing_of l = record {
  said = l.pointer.word;
  seg = l.start.segment;
  pos = l.start.word;
  pad_seg = l.pad.segment;
  pad_pos = l.pad.word;
  pad_len = l.pads;
}
