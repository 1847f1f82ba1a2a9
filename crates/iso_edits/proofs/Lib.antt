pub mod Answering
pub mod KnownFaces
pub mod IsolatedNodes
pub mod IsolatedLinks
pub mod IsolatedEdges
