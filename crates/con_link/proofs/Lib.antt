pub mod Parts
pub mod Pieces
pub mod Said
pub mod OneFrame
pub mod NoFrame
pub mod OneAnswer
pub mod MirrorFrames
pub mod OneMirrored
